-- The first ones listed by one pass over the places, and the list as a part of the table.
-- Assumes nothing.
use mathlib.Core.Path.{◌≡◌, refl, sym, ap, ap₂, ◌∙◌}
use mathlib.Core.Bool.{true, false, cond}
use mathlib.Core.List.{List, [], ◌∷◌, ◌++◌, append-nil}
use Prim.Native.Nat.{ℕ, suc, ◌+◌, ◌≤◌, ◌<◌}
use native.Mathlib.Nat.{zero-add}
use native.Mathlib.Numerals.{add-one}
use native.Mathlib.Omega.{arith}
use lib.Dec.{eqb}
use lib.ListN.{get_or, length, set, length-append, get_or-append}
use lib.Seq.{get_or-append_seam}
use Rattle.lists.specs.Lists.{consecutive, keep, overlay, tabulate}
use Rattle.lists.proofs.Cases.{by_test}
use Rattle.lists.proofs.Lists.{consecutive_split, keep_append, length-keep, length-consecutive}
use Rattle.lists.proofs.Overlay.{length-overlay, overlay_before, overlay_same}
use Rattle.ranking.specs.Ranking.{is_leader, leaders_below, LeadersListed}

-- ---- the list

consecutive_snoc : (x : ℕ) → consecutive 0 (suc x) ≡ consecutive 0 x ++ (x ∷ [])
unfolding consecutive
consecutive_snoc x = rw (add-one x, zero-add x) at (consecutive_split 0 x 1)

leaders_hit : (cs fs : List ℕ) (x : ℕ) → is_leader cs fs x ≡ true → leaders_below cs fs (suc x) ≡ leaders_below cs fs x ++ (x ∷ [])
unfolding leaders_below
leaders_hit cs fs x t = ap (keep (is_leader cs fs)) (consecutive_snoc x) ∙ keep_append (is_leader cs fs) (consecutive 0 x) (x ∷ []) ∙ (rw t refl)

leaders_miss : (cs fs : List ℕ) (x : ℕ) → is_leader cs fs x ≡ false → leaders_below cs fs (suc x) ≡ leaders_below cs fs x
unfolding leaders_below
leaders_miss cs fs x t =
    ap (keep (is_leader cs fs)) (consecutive_snoc x) ∙ keep_append (is_leader cs fs) (consecutive 0 x) (x ∷ []) ∙ (rw t (append-nil _))

pub leaders_none : (cs fs : List ℕ) (n : ℕ) → LeadersListed cs n 0 0 fs fs
unfolding leaders_below consecutive overlay
leaders_none cs fs n = record { total = refl; listed = refl }

pub leaders_long : {cs fs gs : List ℕ} {n x h : ℕ} → LeadersListed cs n x h fs gs → length gs ≡ length fs
leaders_long {cs} {fs} {gs} {n} {x} {h} S = ap length S.listed ∙ length-overlay fs n (λ i. get_or (leaders_below cs fs x) i 0) h

pub leaders_most : {cs fs gs : List ℕ} {n x h : ℕ} → LeadersListed cs n x h fs gs → h ≤ x
unfolding leaders_below tabulate
leaders_most {cs} {fs} {gs} {n} {x} {h} S =
    omega (arith, S.total, length-keep (is_leader cs fs) (consecutive 0 x), length-consecutive 0 x)

module _ (cs fs gs : List ℕ) (n x h : ℕ) (S : LeadersListed cs n x h fs gs) (l : get_or cs x 0 < n) where
  stands_same : is_leader cs gs x ≡ is_leader cs fs x
  unfolding is_leader
  stands_same =
      ap (λ (v : ℕ). eqb v x) (ap (λ (r : List ℕ). get_or r (get_or cs x 0) 0) S.listed ∙ overlay_before fs n (λ i. get_or (leaders_below cs fs x) i 0) h (get_or cs x 0) l)

  listed_more : set gs (n + h) x ≡ overlay fs n (λ i. get_or (leaders_below cs fs x ++ (x ∷ [])) i 0) (h + 1)
  unfolding overlay
  listed_more =
      let st : List ℕ = leaders_below cs fs x in
      let front : gs ≡ overlay fs n (λ i. get_or (st ++ (x ∷ [])) i 0) h
      = S.listed ∙ overlay_same fs n (λ i. get_or st i 0) (λ i. get_or (st ++ (x ∷ [])) i 0) h
      (λ i o. sym (get_or-append st (x ∷ []) 0 i (omega (arith, S.total)))) in
      let last : get_or (st ++ (x ∷ [])) h 0 ≡ x = rw S.total (get_or-append_seam st x [] 0) in
      rw (add-one h) (ap₂ (λ (r : List ℕ) (v : ℕ). set r (n + h) v) front (sym last))

  pub leaders_next : (r : ℕ) (ks : List ℕ) → r ≡ cond (is_leader cs gs x) (h + 1) h → ks ≡ cond (is_leader cs gs x) (set gs (n + h) x) gs
      → LeadersListed cs n (x + 1) r fs ks
  leaders_next r ks a b =
      rw (add-one x) (by_test (is_leader cs fs x)
      (λ t.
      let u : is_leader cs gs x ≡ true = stands_same ∙ t in
      let e = leaders_hit cs fs x t in
      record {
        total = (rw u at a) ∙ omega (arith, S.total, ap length e, length-append (leaders_below cs fs x) (x ∷ []));
        listed = rw (rw u at a, e) ((rw u at b) ∙ listed_more);
      })
      (λ t.
      let u : is_leader cs gs x ≡ false = stands_same ∙ t in
      let e = leaders_miss cs fs x t in
      record { total = rw e ((rw u at a) ∙ S.total); listed = rw (rw u at a, e) ((rw u at b) ∙ S.listed) }))
