-- Every list of calls after every accepted opening is one that statement 3 speaks of, and one that brings the blocks' maps keeps its premises.
-- Assumes nothing.
use mathlib.Core.List.{List, [], ◌∷◌, ◌++◌, map}
use mathlib.Core.Path.{◌≡◌, refl}
use Prim.Native.Nat.{ℕ, ◌<◌}
use Rattle.lists.specs.Lists.{consecutive}
use Rattle.cutting.specs.Cutting.{blocks, block_extents, Cutting}
use Rattle.joiner.specs.Job.{State, Tables, Told}
use Rattle.joiner.specs.Stages.{seams}
use Rattle.joiner.specs.Calls.{Call, enrol, join, cross, point}
use Rattle.joiner.specs.Outcomes.{open_refusal}
use Rattle.joiner.specs.Book.{begun}
use Rattle.joiner.specs.Statement.{Brings, Fair, Labelling, Measured, Run}
use Rattle.joiner.proofs.Statement3.{statement3}
use Rattle.theory_model.specs.Model.{after, opened_state}
use Rattle.theory_model.specs.Scripts.{steps, written}
use Rattle.theory_model.proofs.Steps.{model_opens, model_step}

pub model_run : (s : State) (cs : List Call) → Run s (written s cs)
unfolding written
model_run s [] = Run.none
model_run s (c ∷ cs) = Run.next (model_step s c) (model_run (after s c) cs)

-- Statement 3 of the model.
pub model_measured : (o : Told) (lent : Tables) (own : ℕ → List ℕ) (cs : List Call) → open_refusal o lent ≡ 0
    → ((b : ℕ) → b < blocks o.cutting → Labelling (block_extents o.cutting b) (own b)) → Fair own (written (opened_state o lent) cs)
    → Measured own (begun o) (written (opened_state o lent) cs)
model_measured o lent own cs e lab fair =
    statement3 o lent (opened_state o lent) own (written (opened_state o lent) cs) ((model_opens o lent).1 e) lab (model_run (opened_state o lent) cs) fair

-- ---- lists that bring the blocks' maps

abbrev pub AllBring : (ℕ → List ℕ) → List Call → Type 0
AllBring own [] = Unit {0}
AllBring own (c ∷ cs) = Brings own c × AllBring own cs

fair_written : (own : ℕ → List ℕ) (s : State) (cs : List Call) → AllBring own cs → Fair own (written s cs)
unfolding written
fair_written own s [] b = tt
fair_written own s (c ∷ cs) b = (λ _. b.0, fair_written own (after s c) cs b.1)

module _ (own : ℕ → List ℕ) where
  bring_both : (cs ds : List Call) → AllBring own cs → AllBring own ds → AllBring own (cs ++ ds)
  bring_both [] ds b d = d
  bring_both (c ∷ cs) ds b d = (b.0, bring_both cs ds b.1 d)

  bring_map : {A : Type 0} (f : A → Call) → ((x : A) → Brings own (f x)) → (xs : List A) → AllBring own (map f xs)
  bring_map f h [] = tt
  bring_map f h (x ∷ xs) = (h x, bring_map f h xs)

  -- the steps of all stages
  pub steps_bring : (k : Cutting) → AllBring own (steps k own)
  unfolding steps
  steps_bring k =
      bring_both (enrols ++ joins_of ++ crosses) points
      (bring_both (enrols ++ joins_of) crosses
      (bring_both enrols joins_of (bring_map (λ b. enrol b (own b)) (λ b. refl) every_block) (bring_map (λ d. join d.from d.to (own d.from) (own d.to)) (λ d. (refl, refl)) (seams k)))
      (bring_map (λ b. cross b (own b)) (λ b. refl) every_block))
      (bring_map (λ b. point b (own b)) (λ b. refl) every_block)
    where
      every_block : List ℕ
      every_block = consecutive 0 (blocks k)

      enrols : List Call
      enrols = map (λ b. enrol b (own b)) every_block

      joins_of : List Call
      joins_of = map (λ d. join d.from d.to (own d.from) (own d.to)) (seams k)

      crosses : List Call
      crosses = map (λ b. cross b (own b)) every_block

      points : List Call
      points = map (λ b. point b (own b)) every_block

-- Any cutting of any volume, step by step.
pub model_volume : (o : Told) (lent : Tables) (own : ℕ → List ℕ) → open_refusal o lent ≡ 0
    → ((b : ℕ) → b < blocks o.cutting → Labelling (block_extents o.cutting b) (own b)) → Measured own (begun o) (written (opened_state o lent) (steps o.cutting own))
model_volume o lent own e lab =
    model_measured o lent own (steps o.cutting own) e lab (fair_written own (opened_state o lent) (steps o.cutting own) (steps_bring own o.cutting))
