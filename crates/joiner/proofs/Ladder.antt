-- The refusal that the service and the day book give, from what each test says.
-- Assumes nothing.
use mathlib.Core.Bool.{Bool, cond, false, true}
use mathlib.Core.List.{[], ◌∷◌}
use mathlib.Core.Logic.{◌≢◌, ◌⊎◌, inl, inr}
use mathlib.Core.Path.{◌≡◌, refl}
use Prim.Native.Nat.{ℕ, ◌<◌, ◌≤◌}
use native.Mathlib.Omega.{arith}
use Rattle.refusals.specs.declared.Refusal.{Refusal}
use Rattle.refusals.specs.Refusals.{first, given_by, listed_numbers, number, table}
use Rattle.joiner.specs.Job.{State, Tables, Told}
use Rattle.joiner.specs.Calls.{Call}
use Rattle.joiner.specs.Declines.{declines}
use Rattle.joiner.specs.Outcomes.{open_declines}
use Rattle.joiner.specs.Book.{Book, book_declines}
use Rattle.lists.proofs.Cases.{by_test}

-- what is given as a ladder
pub ladder : (f : Refusal → Bool)
    → given_by f
    ≡ cond (f Refusal.OffSize) 1 (cond (f Refusal.BadCut) 2 (cond (f Refusal.WrongStage) 3 (cond (f Refusal.NoSuchPlace) 4 (cond (f Refusal.DoneAlready) 5 (cond (f Refusal.WrongTray) 6
    (cond (f Refusal.BlankVoxel) 7 (cond (f Refusal.StrayLabel) 8 (cond (f Refusal.LayersDiffer) 9 (cond (f Refusal.TableFull) 10 (cond (f Refusal.BadRecord) 11 (cond (f Refusal.BadReading) 12 0)))))))))))
unfolding given_by first table number
ladder f = refl

-- f for the service, g for the book: 1, 2, 7 and 11 are never given, 3 to 6 agree
pub record Alongside (f g : Refusal → Bool) : Type 0 where
  pub f_size : f Refusal.OffSize ≡ false
  pub f_cut : f Refusal.BadCut ≡ false
  pub f_blank : f Refusal.BlankVoxel ≡ false
  pub f_record : f Refusal.BadRecord ≡ false
  pub stage : f Refusal.WrongStage ≡ g Refusal.WrongStage
  pub early : f Refusal.WrongStage ≡ false → (f Refusal.NoSuchPlace ≡ g Refusal.NoSuchPlace) × (f Refusal.DoneAlready ≡ g Refusal.DoneAlready) × (f Refusal.WrongTray ≡ g Refusal.WrongTray)

-- the book gives no 1, 2, 7, 8 or 11
pub record Bookish (g : Refusal → Bool) : Type 0 where
  pub g_size : g Refusal.OffSize ≡ false
  pub g_cut : g Refusal.BadCut ≡ false
  pub g_blank : g Refusal.BlankVoxel ≡ false
  pub g_stray : g Refusal.StrayLabel ≡ false
  pub g_record : g Refusal.BadRecord ≡ false

-- h is the book of 3 to 6 alone
pub record EarlyOnly (g h : Refusal → Bool) : Type 0 where
  pub h_size : h Refusal.OffSize ≡ false
  pub h_cut : h Refusal.BadCut ≡ false
  pub h_stage : h Refusal.WrongStage ≡ g Refusal.WrongStage
  pub h_place : h Refusal.NoSuchPlace ≡ g Refusal.NoSuchPlace
  pub h_done : h Refusal.DoneAlready ≡ g Refusal.DoneAlready
  pub h_tray : h Refusal.WrongTray ≡ g Refusal.WrongTray
  pub h_blank : h Refusal.BlankVoxel ≡ false
  pub h_stray : h Refusal.StrayLabel ≡ false
  pub h_layers : h Refusal.LayersDiffer ≡ false
  pub h_full : h Refusal.TableFull ≡ false
  pub h_record : h Refusal.BadRecord ≡ false
  pub h_reading : h Refusal.BadReading ≡ false

early_ladder : (g h : Refusal → Bool) → EarlyOnly g h → given_by h ≡ cond (g Refusal.WrongStage) 3 (cond (g Refusal.NoSuchPlace) 4 (cond (g Refusal.DoneAlready) 5 (cond (g Refusal.WrongTray) 6 0)))
early_ladder g h E = rw (ladder h, E.h_size, E.h_cut, E.h_stage, E.h_place, E.h_done, E.h_tray, E.h_blank, E.h_stray, E.h_layers, E.h_full, E.h_record, E.h_reading) refl

module _ (f g : Refusal → Bool) (A : Alongside f g) where
  -- where the late tests agree too, so do the refusals
  pub given_agree : Bookish g
      → (f Refusal.WrongStage ≡ false → f Refusal.NoSuchPlace ≡ false → (f Refusal.StrayLabel ≡ false) × (f Refusal.LayersDiffer ≡ g Refusal.LayersDiffer) × (f Refusal.TableFull ≡ g Refusal.TableFull) × (f Refusal.BadReading ≡ g Refusal.BadReading))
      → given_by f ≡ given_by g
  given_agree G late =
      rw (ladder f, ladder g, A.f_size, A.f_cut, A.f_blank, A.f_record, G.g_size, G.g_cut, G.g_blank, G.g_stray, G.g_record, ← A.stage)
      (by_test (f Refusal.WrongStage) (λ a. rw a refl)
      (λ a. rw (a, ← (A.early a).0, ← (A.early a).1, ← (A.early a).2)
      (by_test (f Refusal.NoSuchPlace) (λ b. rw b refl)
      (λ b. rw (b, (late a b).0, (late a b).1, (late a b).2, (late a b).3) refl))))

  -- what the book says of 3 to 6 alone
  module _ (early-of : Refusal → Bool) (E : EarlyOnly g early-of) where
    -- either the service gives what the book gives of 3 to 6, or the book gives none of them and the service none up to 6
    early_cases_lem : (given_by f ≡ given_by early-of) ⊎ ((given_by early-of ≡ 0) × (0 < given_by f → 6 < given_by f))
    early_cases_lem =
        rw (ladder f, early_ladder g early-of E, A.f_size, A.f_cut, A.f_blank, A.f_record, ← A.stage)
        (by_test (f Refusal.WrongStage) (λ a. rw a (inl refl))
        (λ a. rw (a, ← (A.early a).0, ← (A.early a).1, ← (A.early a).2)
        (by_test (f Refusal.NoSuchPlace) (λ b. rw b (inl refl))
        (λ b. rw b
        (by_test (f Refusal.DoneAlready) (λ c. rw c (inl refl))
        (λ c. rw c
        (by_test (f Refusal.WrongTray) (λ d. rw d (inl refl))
        (λ d. rw d (inr (refl, later (f Refusal.StrayLabel) (f Refusal.LayersDiffer) (f Refusal.TableFull) (f Refusal.BadReading)))))))))))
      where
        later : (a b c d : Bool) → 0 < cond a 8 (cond b 9 (cond c 10 (cond d 12 0))) → 6 < cond a 8 (cond b 9 (cond c 10 (cond d 12 0)))
        later true b c d h = omega arith
        later false true c d h = omega arith
        later false false true d h = omega arith
        later false false false true h = omega arith
        later false false false false h = absurd (omega arith)

    pub given_early : given_by early-of ≢ 0 → given_by f ≡ given_by early-of
    given_early n = go early_cases_lem
      where
        go : (given_by f ≡ given_by early-of) ⊎ ((given_by early-of ≡ 0) × (0 < given_by f → 6 < given_by f)) → given_by f ≡ given_by early-of
        go (inl e) = e
        go (inr e) = absurd (n e.0)

    pub given_early_only : 0 < given_by f → given_by f ≤ 6 → given_by f ≡ given_by early-of
    given_early_only h l = go early_cases_lem
      where
        go : (given_by f ≡ given_by early-of) ⊎ ((given_by early-of ≡ 0) × (0 < given_by f → 6 < given_by f)) → given_by f ≡ given_by early-of
        go (inl e) = e
        go (inr e) = absurd (omega (arith, e.1 h))

-- the book gives what it gives of 3 to 6, where it gives one of them
module _ (g h : Refusal → Bool) (G : Bookish g) (E : EarlyOnly g h) where
  pub given_book : given_by h ≢ 0 → given_by g ≡ given_by h
  given_book =
      rw (ladder g, early_ladder g h E, G.g_size, G.g_cut, G.g_blank, G.g_stray, G.g_record)
      (by_test (g Refusal.WrongStage) (λ a. rw a (λ n. refl))
      (λ a. rw a
      (by_test (g Refusal.NoSuchPlace) (λ b. rw b (λ n. refl))
      (λ b. rw b
      (by_test (g Refusal.DoneAlready) (λ c. rw c (λ n. refl))
      (λ c. rw c
      (by_test (g Refusal.WrongTray) (λ d. rw d (λ n. refl))
      (λ d. rw d (λ n. absurd (n refl))))))))))

abbrev rungs : Bool → Bool → Bool → Bool → Bool → Bool → Bool → ℕ
rungs a b c d e f g = cond a 3 (cond b 4 (cond c 5 (cond d 6 (cond e 9 (cond f 10 (cond g 12 0))))))

-- .. and never 8
pub given_stray : (g : Refusal → Bool) → Bookish g → given_by g ≢ 8
given_stray g G = rw (ladder g, G.g_size, G.g_cut, G.g_blank, G.g_stray, G.g_record) (go (g Refusal.WrongStage) (g Refusal.NoSuchPlace) (g Refusal.DoneAlready) (g Refusal.WrongTray) (g Refusal.LayersDiffer) (g Refusal.TableFull) (g Refusal.BadReading))
  where
    go : (a b c d e f h : Bool) → rungs a b c d e f h ≢ 8
    go true b c d e f h z = omega arith
    go false true c d e f h z = omega arith
    go false false true d e f h z = omega arith
    go false false false true e f h z = omega arith
    go false false false false true f h z = omega arith
    go false false false false false true h z = omega arith
    go false false false false false false true z = omega arith
    go false false false false false false false z = omega arith

-- ---- the numbers that the public entries list, in the order of the table

pub open_listed : (o : Told) (t : Tables) → listed_numbers (open_declines o t) ≡ 1 ∷ 2 ∷ 6 ∷ []
unfolding listed_numbers open_declines number
open_listed o t = refl

pub call_listed : (s : State) (c : Call) → listed_numbers (declines s c) ≡ 1 ∷ 2 ∷ 3 ∷ 4 ∷ 5 ∷ 6 ∷ 8 ∷ 9 ∷ 10 ∷ []
unfolding listed_numbers declines number
call_listed s c = refl

pub book_listed : (B : Book) (c : Call) → listed_numbers (book_declines B c) ≡ 3 ∷ 4 ∷ 5 ∷ 6 ∷ 9 ∷ 10 ∷ []
unfolding listed_numbers book_declines number
book_listed B c = refl
