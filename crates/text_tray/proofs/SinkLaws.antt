-- Text put byte by byte: two texts one after the other, and what a whole text leaves in the tray.
-- Assumes nothing.
use mathlib.Core.Path.{◌≡◌, refl, sym, subst, ap, ◌∙◌}
use mathlib.Core.List.{List, [], ◌∷◌, ◌++◌}
use Prim.Native.Nat.{ℕ, zero, suc, ◌+◌, ◌-◌, ◌≤◌, ◌<◌, min}
use native.Mathlib.Nat.{min-eq_left, min-eq_right}
use native.Mathlib.Numerals.{add-one}
use native.Mathlib.Omega.{arith}
use lib.Dec.{ltb}
use lib.ListN.{length, get_or, take, drop, set, length-set, length-take, length-drop}
use lib.Seq.{take_all, take-nil, take-suc, sets, sets-eq}
use borrow.Author.Tests.{ltb-true, ltb-false, ne_eqb, eq-eqb, lt-ltb, le-ltb}
use Rattle.lists.proofs.Cases.{by_test}
use Rattle.text_tray.specs.Sunk.{State, sunk_byte, sunk, fitting, part}

abbrev at_state : ℕ → ℕ → List ℕ → State
at_state k a t = record { skip = k; at = a; tray = t }

-- ---- texts one after the other

sunk_append : (a b : List ℕ) (s : State) → sunk s (a ++ b) ≡ sunk (sunk s a) b
unfolding sunk
sunk_append [] b s = refl
sunk_append (x ∷ a) b s = sunk_append a b (sunk_byte s x)

pub sunk_none : (s : State) → s ≡ sunk s []
unfolding sunk
sunk_none s = refl

module _ (s t u : State) (a b : List ℕ) (p : t ≡ sunk s a) (q : u ≡ sunk t b) where
  pub sunk_then : u ≡ sunk s (a ++ b)
  sunk_then = rw (sunk_append a b s, ← p) q

  pub sunk_more : (c : List ℕ) → c ≡ a ++ b → u ≡ sunk s c
  sunk_more c e = rw e sunk_then

-- a word, byte by byte
module _ (s t : State) (w : List ℕ) (i : ℕ) (p : t ≡ sunk s (take i w)) where
  pub word_next : (u : State) → u ≡ sunk t (get_or w i 0 ∷ []) → i < length w → u ≡ sunk s (take (i + 1) w)
  word_next u q h = sunk_more s t u _ _ p q _ (rw (add-one i) (take-suc w i 0 h))

  pub word_all : length w ≤ i → t ≡ sunk s w
  word_all h = rw (take_all i w h) at p

-- ---- the ways of `put`

module _ (k a : ℕ) (t : List ℕ) (b : ℕ) where
  pub put_skipped : 0 < k → at_state (k - 1) a t ≡ sunk (at_state k a t) (b ∷ [])
  unfolding sunk sunk_byte
  put_skipped h = rw (ne_eqb k 0 (λ e. omega arith))

  pub put_in : k ≤ 0 → a < length t → at_state k (a + 1) (set t a b) ≡ sunk (at_state k a t) (b ∷ [])
  unfolding sunk sunk_byte
  put_in h i = let z : k ≡ 0 = omega arith in rw (z, lt-ltb a (length t) i)

  pub put_full : k ≤ 0 → length t ≤ a → at_state k a t ≡ sunk (at_state k a t) (b ∷ [])
  unfolding sunk sunk_byte
  put_full h i = rw (eq-eqb k 0 (omega arith), le-ltb a (length t) i)

-- ---- a whole text

-- two sinks hold the same
abbrev Alike : State → State → Type 0
Alike s u = (s.at ≡ u.at) × (s.tray ≡ u.tray)

-- bytes that are passed over
byte_passed : (k a : ℕ) (t : List ℕ) (b : ℕ) → sunk_byte (at_state (suc k) a t) b ≡ at_state k a t
unfolding sunk_byte
byte_passed k a t b = let z : suc k - 1 ≡ k = omega arith in rw (ne_eqb (suc k) 0 (λ e. omega arith), z)

passed : (k a : ℕ) (t text : List ℕ) → Alike (sunk (at_state k a t) text) (sunk (at_state 0 a t) (drop k text))
unfolding sunk
passed zero a t text = (refl, refl)
passed (suc k) a t [] = (refl, refl)
passed (suc k) a t (b ∷ bs) = subst (λ (s : State). Alike (sunk s bs) (sunk (at_state 0 a t) (drop k bs))) (sym (byte_passed k a t b)) (passed k a t bs)

-- bytes that go into the tray
filled : (bs : List ℕ) (a : ℕ) (t : List ℕ) → sunk (at_state 0 a t) bs ≡ at_state 0 (a + length (take (length t - a) bs)) (sets t a (take (length t - a) bs))
unfolding sunk sunk_byte
filled [] a t = let z : a + 0 ≡ a = omega arith in rw (take-nil (length t - a), z)
filled (b ∷ bs) a t =
    by_test (ltb a (length t))
    (λ h. let i = ltb-true a (length t) h in
    let d : length t - a ≡ suc (length t - suc a) = omega arith in
    let s : a + suc (length (take (length t - suc a) bs)) ≡ suc a + length (take (length t - suc a) bs) = omega arith in
    rw (h, d, s, add-one a) (rw (length-set t a b) at (filled bs (suc a) (set t a b))))
    (λ h. let i = ltb-false a (length t) h in
    let d : length t - a ≡ 0 = omega arith in
    rw h (filled bs a t ∙ rw d))

take_least : (n : ℕ) (l : List ℕ) → take n l ≡ take (min n (length l)) l
take_least n l =
    by_test (ltb n (length l))
    (λ h. let i = ltb-true n (length l) h in let j : n ≤ length l = omega arith in rw (min-eq_left j))
    (λ h. let i = ltb-false n (length l) h in rw (min-eq_right i) (take_all n l i ∙ sym (take_all (length l) l (omega arith))))

module _ (text t : List ℕ) (k : ℕ) where
  abbrev fit : List ℕ
  fit = take (length t) (drop k text)

  fit_length : length fit ≡ fitting k text (length t)
  unfolding fitting
  fit_length = rw (length-take, length-drop)

  fit_is : fit ≡ take (fitting k text (length t)) (drop k text)
  unfolding fitting
  fit_is = take_least (length t) (drop k text) ∙ rw (length-drop k text)

  whole_text_lem : sunk (at_state 0 0 t) (drop k text) ≡ at_state 0 (0 + length fit) (sets t 0 fit)
  whole_text_lem = let z : length t - 0 ≡ length t = omega arith in rw z at (filled (drop k text) 0 t)

  -- What a whole text leaves.
  pub sunk_whole : (e : State) → e ≡ sunk (at_state k 0 t) text → (e.at ≡ fitting k text (length t)) × (e.tray ≡ part k text t)
  unfolding part
  sunk_whole e p =
      let q = passed k 0 t text in
      let z : 0 + length fit ≡ length fit = omega arith in
      let room : 0 + length fit ≤ length t = rw (length-take) (omega arith) in (
        ap (λ (s : State). s.at) p ∙ q.0 ∙ ap (λ (s : State). s.at) whole_text_lem ∙ z ∙ fit_length,
        ap (λ (s : State). s.tray) p ∙ q.1 ∙ ap (λ (s : State). s.tray) whole_text_lem ∙ sets-eq fit t 0 room ∙ rw (z, fit_length, fit_is),
      )
