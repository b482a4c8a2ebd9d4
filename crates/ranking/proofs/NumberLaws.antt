-- The classes of the listed first ones get their numbers, and each place its class's.
-- Assumes nothing.
use mathlib.Core.Path.{◌≡◌, refl, sym, ap, ◌∙◌}
use mathlib.Core.Logic.{◌≢◌}
use mathlib.Core.List.{List}
use Prim.Native.Nat.{ℕ, suc, ◌+◌, ◌≤◌, ◌<◌}
use native.Mathlib.Omega.{arith}
use lib.Dec.{eqb}
use lib.ListN.{get_or, length, set, length-set}
use lib.Seq.{get_or-set_same, get_or-set_other}
use borrow.Author.Tests.{eqb-true, eqb-false}
use Rattle.lists.proofs.Cases.{by_test}
use Rattle.ranking.specs.Ranking.{Classes, Different, Placed}

-- ---- the numbers of the classes

-- The first i of the places listed from n on have their classes' numbers written, and from n on the table is as it was.
pub record Placing (cs spare spare' : List ℕ) (n i : ℕ) : Type 0 where
  pub done : Placed cs spare spare' n i
  pub rest : (k : ℕ) → n ≤ k → get_or spare' k 0 ≡ get_or spare k 0

pub placing_none : (cs spare : List ℕ) (n : ℕ) → Placing cs spare spare n 0
placing_none cs spare n = record { done = record { long = refl; at = λ i l. absurd (omega arith) }; rest = λ k l. refl }

module _ {cs spare spare' : List ℕ} {n i h : ℕ} (C : Classes cs n) (D : Different cs spare n h) (l : i < h) (P : Placing cs spare spare' n i) where
  -- The place that is read, and its class.
  pub listed_below : get_or spare' (n + i) 0 < n
  listed_below = omega (arith, P.rest (n + i) (omega arith), D.within i l)

  pub class_below : get_or cs (get_or spare' (n + i) 0) 0 < n
  class_below = omega (arith, C.low (get_or spare' (n + i) 0) listed_below, listed_below)

  pub listed_same : get_or spare' (n + i) 0 ≡ get_or spare (n + i) 0
  listed_same = P.rest (n + i) (omega arith)

  pub placing_next : n ≤ length spare → Placing cs spare (set spare' (get_or cs (get_or spare' (n + i) 0) 0) (i + 1)) n (i + 1)
  placing_next k = record {
    done = record { long = length-set spare' c (i + 1) ∙ P.done.long; at = each };
    rest = λ j m. get_or-set_other spare' c j (i + 1) 0 (λ q. omega (arith, class_below)) ∙ P.rest j m;
  }
    where
      c : ℕ
      c = get_or cs (get_or spare' (n + i) 0) 0

      each : (j : ℕ) → j < i + 1 → get_or (set spare' c (i + 1)) (get_or cs (get_or spare (n + j) 0) 0) 0 ≡ suc j
      each j m =
          by_test (eqb j i)
          (λ t.
          let q : j ≡ i = eqb-true j i t in
          let u : get_or cs (get_or spare (n + j) 0) 0 ≡ c
          = ap (λ (a : ℕ). get_or cs (get_or spare (n + a) 0) 0) q ∙ ap (λ (x : ℕ). get_or cs x 0) (sym listed_same) in
          ap (λ (a : ℕ). get_or (set spare' c (i + 1)) a 0) u ∙ get_or-set_same spare' c (i + 1) 0 (omega (arith, class_below, P.done.long)) ∙ omega arith)
          (λ t.
          let q : j ≢ i = eqb-false j i t in
          get_or-set_other spare' c (get_or cs (get_or spare (n + j) 0) 0) (i + 1) 0
          (λ u. q (D.apart j i (omega arith) l (u ∙ ap (λ (x : ℕ). get_or cs x 0) listed_same)))
          ∙ P.done.at j (omega arith))
