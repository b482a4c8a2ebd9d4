-- The number of each refusal is the one that it was declared with.
use Rattle.std.proofs.Common.{◌≡◌, ◌+◌, refl}
use Rattle.refusals.specs.Refusals.{number}
use Rattle.refusals.specs.declared.Refusal.{Refusal}
use Rattle.refusals.proofs.U32FromRefusal.from.Goals as goal

numbered : (r : Refusal) → denote.Enum.Declared.tag_of Rattle.refusals.specs.contracts.Refusal.the_type r + 1 ≡ number r
unfolding number
numbered Refusal.OffSize = refl
numbered Refusal.BadCut = refl
numbered Refusal.WrongStage = refl
numbered Refusal.NoSuchPlace = refl
numbered Refusal.DoneAlready = refl
numbered Refusal.WrongTray = refl
numbered Refusal.BlankVoxel = refl
numbered Refusal.StrayLabel = refl
numbered Refusal.LayersDiffer = refl
numbered Refusal.TableFull = refl
numbered Refusal.BadRecord = refl
numbered Refusal.BadReading = refl

pub returns : goal.returns
returns c = numbered c.args.refusal
