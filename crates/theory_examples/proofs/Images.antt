-- States written out in lists, so that a long job can be computed stage by stage.
-- Assumes nothing.
use mathlib.Core.List.{List, [], ◌∷◌}
use mathlib.Core.Path.{◌∙◌, ◌≡◌, ap, refl, sym}
use Prim.Native.Nat.{ℕ}
use lib.Dec.{eqb}
use lib.ListN.{get_or}
use borrow.Author.Tests.{eq-eqb, eqb-false, eqb-true}
use Rattle.joiner.specs.Job.{Kind, Face, Curve, Point, Stage, Told, State, column}
use Rattle.joiner.specs.Calls.{Call, enrol, join, cross, point, look, reading, Answer}
use Rattle.joiner.specs.Declines.{refusal}
use Rattle.joiner.specs.Outcomes.{Done, CallStep}
use Rattle.lists.proofs.Cases.{by_test}
use Rattle.theory_model.specs.Model.{after, answer_of, accepted_state}
use Rattle.theory_model.specs.Scripts.{run}
use Rattle.theory_model.proofs.Steps.{model_step}

-- A state written out in lists: of each table that of faces, of curves and of points.
pub record Image : Type 0 where
  pub stage : Stage
  pub sofar : List ℕ
  pub numbered : List ℕ
  pub ticks : List ℕ
  pub blocks : List ℕ
  pub links : List (List ℕ)
  pub keys : List (List ℕ)
  pub rows : List (List ℕ)
  pub numbers : List (List ℕ)
  pub firsts : List (List ℕ)
  pub listed : List (List ℕ)

unfoldable pub three_kinds : {A : Type 0} → (Kind → A) → List A
three_kinds f = f Face ∷ f Curve ∷ f Point ∷ []

unfoldable pub image_of : State → Image
image_of s =
    record {
      stage = s.job.stage;
      sofar = three_kinds s.job.sofar;
      numbered = three_kinds s.job.numbered;
      ticks = s.tables.ticks;
      blocks = s.tables.blocks;
      links = three_kinds s.tables.links;
      keys = three_kinds s.tables.keys;
      rows = three_kinds s.tables.rows;
      numbers = three_kinds s.tables.numbers;
      firsts = three_kinds s.tables.firsts;
      listed = three_kinds s.tables.listed;
    }

unfoldable pub state_of : Told → Image → State
state_of o i =
    record {
      job = record { told = o; stage = i.stage; sofar = λ κ. get_or i.sofar (column κ) 0; numbered = λ κ. get_or i.numbered (column κ) 0 };
      tables = record {
        ticks = i.ticks;
        blocks = i.blocks;
        links = λ κ. get_or i.links (column κ) [];
        keys = λ κ. get_or i.keys (column κ) [];
        rows = λ κ. get_or i.rows (column κ) [];
        numbers = λ κ. get_or i.numbers (column κ) [];
        firsts = λ κ. get_or i.firsts (column κ) [];
        listed = λ κ. get_or i.listed (column κ) [];
      };
    }

-- The same run over images.
unfoldable pub run_image : Told → Image → List Call → Image
run_image o i [] = i
run_image o i (c ∷ cs) = run_image o (image_of (after (state_of o i) c)) cs

-- ---- an image is the whole state

three_back : {A : Type 0} (f : Kind → A) (d : A) (κ : Kind) → get_or (three_kinds f) (column κ) d ≡ f κ
unfolding three_kinds
three_back f d Face = refl
three_back f d Curve = refl
three_back f d Point = refl

image_whole : (s : State) → state_of s.job.told (image_of s) ≡ s
unfolding state_of image_of
image_whole s = λ i. record {
  job = record {
    told = s.job.told;
    stage = s.job.stage;
    sofar = λ κ. three_back s.job.sofar 0 κ i;
    numbered = λ κ. three_back s.job.numbered 0 κ i;
  };
  tables = record {
    ticks = s.tables.ticks;
    blocks = s.tables.blocks;
    links = λ κ. three_back s.tables.links [] κ i;
    keys = λ κ. three_back s.tables.keys [] κ i;
    rows = λ κ. three_back s.tables.rows [] κ i;
    numbers = λ κ. three_back s.tables.numbers [] κ i;
    firsts = λ κ. three_back s.tables.firsts [] κ i;
    listed = λ κ. three_back s.tables.listed [] κ i;
  };
}

-- ---- a call

-- no call changes what the opening was told
told_kept : (s : State) (c : Call) (a : Answer) (t : State) → Done s c a t → t.job.told ≡ s.job.told
told_kept s (enrol b m) a t d = d.1.step.told
told_kept s (join b c m n) a t d = d.1.step.told
told_kept s (cross b m) a t d = d.1.step.told
told_kept s (point b m) a t d = d.1.step.told
told_kept s (look b m c) a t d = ap (λ (z : State). z.job.told) d.1
told_kept s (reading κ n) a t d = ap (λ (z : State). z.job.told) d.1

pub step_told : (s : State) (c : Call) (a : Answer) (t : State) → CallStep s c a t → t.job.told ≡ s.job.told
step_told s c a t S =
    by_test (eqb (refusal s c) 0) (λ e. told_kept s c a t (S.accepted (eqb-true _ _ e)))
    (λ e. ap (λ (z : State). z.job.told) (S.declined (eqb-false (refusal s c) 0 e)).1)

pub accepted_left : (s : State) (c : Call) → refusal s c ≡ 0 → after s c ≡ accepted_state s c
unfolding after
accepted_left s c e = rw (eq-eqb (refusal s c) 0 e)

after_image : (o : Told) (i : Image) (c : Call) → after (state_of o i) c ≡ state_of o (image_of (after (state_of o i) c))
unfolding state_of
after_image o i c =
    sym (image_whole (after (state_of o i) c)) ∙ ap (λ (z : Told). state_of z (image_of (after (state_of o i) c))) (step_told (state_of o i) c (answer_of (state_of o i) c) (after (state_of o i) c) (model_step (state_of o i) c))

-- ---- a list of calls

run_image_lem : (o : Told) (i : Image) (cs : List Call) → run (state_of o i) cs ≡ state_of o (run_image o i cs)
unfolding run run_image
run_image_lem o i [] = refl
run_image_lem o i (c ∷ cs) = ap (λ (z : State). run z cs) (after_image o i c) ∙ run_image_lem o (image_of (after (state_of o i) c)) cs

pub run_by_image : (s : State) (o : Told) (cs : List Call) (j : Image) → s.job.told ≡ o → run_image o (image_of s) cs ≡ j → run s cs ≡ state_of o j
run_by_image s o cs j told e =
    ap (λ (z : State). run z cs) (sym (image_whole s)) ∙ ap (λ (z : Told). run (state_of z (image_of s)) cs) told ∙ run_image_lem o (image_of s) cs ∙ ap (state_of o) e
