-- Fields, their names and what follows the header.
use Rattle.std.proofs.Common.{refl}
use Rattle.header_fields.specs.Fields.{fields_of}
use Rattle.search_laws.proofs.Agreeing.{same_fields, same_name}
use Rattle.search_laws.proofs.laws.searches_look_at_what_fetches_show.Goals as goal

pub returns-clause-body : goal.returns-clause-body
returns-clause-body c = λ string what. refl

pub returns-clause-text : goal.returns-clause-text
returns-clause-text c = λ string what. refl

pub returns-clause-named : goal.returns-clause-named
returns-clause-named c = same_name

pub returns-clause-fields : goal.returns-clause-fields
returns-clause-fields c = λ name string what. same_fields name string (fields_of what.text)

pub returns-clause-shown : goal.returns-clause-shown
returns-clause-shown c = λ name text. refl
