use Rattle.step_enrol.proofs.DoneLaws.{kind_rows}
use Rattle.step_enrol.proofs.enrol_kind.Goals as goal

pub store_rows-requires : goal.store_rows-requires
store_rows-requires c = kind_rows _ _ _ _ _ _ _ _ _ _ _ c.requires _ c.store_keys.ensures
