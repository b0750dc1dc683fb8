-- Why an ask is refused.
use Rattle.std.proofs.Common.{◌≡◌, ◌⊎◌, inl, inr, Result, Err, refl}
use Rattle.verb_core.specs.declared.item.Item.{Item}
use Rattle.verb_core.specs.declared.ask.Refused.{Refused}
use Rattle.verb_core.specs.declared.ask.Refused.TheVariants.{NoBox, Exists, HasInferiors, Fixed, NameShape, TryCreate, Gone, TooMany, TooLarge, BoxesFull, UidWide, Numbers, NoMemory}
use Rattle.box_store.specs.Refusing.{IsRefusal}

-- the refusal that is due, or want of memory
pub due_or_out_of_memory : (why : Refused) (due : Result Item Refused) → IsRefusal why due → (why ≡ NoMemory) ⊎ (due ≡ Err why)
due_or_out_of_memory NoMemory due is = inl refl
due_or_out_of_memory NoBox due is = inr is
due_or_out_of_memory Exists due is = inr is
due_or_out_of_memory HasInferiors due is = inr is
due_or_out_of_memory Fixed due is = inr is
due_or_out_of_memory NameShape due is = inr is
due_or_out_of_memory TryCreate due is = inr is
due_or_out_of_memory Gone due is = inr is
due_or_out_of_memory (TooMany asked) due is = inr is
due_or_out_of_memory (TooLarge asked) due is = inr is
due_or_out_of_memory BoxesFull due is = inr is
due_or_out_of_memory UidWide due is = inr is
due_or_out_of_memory (Numbers next) due is = inr is
