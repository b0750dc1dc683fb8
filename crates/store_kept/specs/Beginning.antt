-- What a store in use begins with, by how it is held.
use Rattle.std.specs.Prelude.{Bool, true, Option, Some, None}
use Rattle.verb_core.specs.declared.conf.Conf.{Conf}
use Rattle.verb_core.specs.declared.conf.House.{House}
use Rattle.box_store.specs.Making.{makes_store, store_of_rows}
use Rattle.store_kept.specs.declared.base.Past.{Past}
use Rattle.store_kept.specs.Kept.{Origin, opening_origin}
use Rattle.store_kept.specs.Naming.{texts_come}

-- behind a past that was cut off
abbrev pub origin_of_past : House → Conf → Past → Origin
origin_of_past house opening past = record {
  house = house;
  opening = opening;
  base = store_of_rows house past.conf past.rows;
  texts = texts_come past.texts;
  first = past.next;
}

-- behind one, or at first
abbrev pub origin_by : House → Conf → Option Past → Origin
origin_by house opening None = opening_origin house opening
origin_by house opening (Some past) = origin_of_past house opening past

-- whether it makes a store, where a past was cut off
abbrev pub makes_base : House → Option Past → Bool
makes_base house None = true
makes_base house (Some past) = makes_store house past.conf past.rows
