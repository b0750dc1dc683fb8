use Rattle.box_store.proofs.Making.{one_place, refused_make_none}
use Rattle.box_store.proofs.rows.rows_make_valid_stores.Goals as goal

pub returns-clause-refused : goal.returns-clause-refused
returns-clause-refused c house rows place refused conf = refused_make_none house conf rows place refused

pub returns-clause-one_place : goal.returns-clause-one_place
returns-clause-one_place c = one_place
