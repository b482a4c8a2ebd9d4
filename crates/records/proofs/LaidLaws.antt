-- The pieces of a record, and a record laid over a tray piece by piece.
-- Assumes nothing.
use mathlib.Core.Path.{◌≡◌, refl, sym, ap, ◌∙◌}
use mathlib.Core.List.{List, [], ◌∷◌, ◌++◌}
use Prim.Native.Nat.{ℕ, ◌+◌, ◌*◌, ◌≤◌}
use native.Mathlib.Omega.{arith}
use lib.Dec.{eqb}
use lib.ListN.{length, length-append}
use borrow.Author.Tests.{ne_eqb}
use Rattle.records.proofs.MapLaws.{length-bitmap}
use Rattle.lists.specs.Lists.{laid}
use Rattle.lists.proofs.Cases.{by_test}
use Rattle.lists.proofs.Laid.{laid_append, laid_next}
use Rattle.cells.specs.declared.Triple.{Triple}
use Rattle.records.specs.Fields.{bytes}
use Rattle.records.specs.Record.{head_bytes, bit, bitmap_length, bitmap, listed, encode_record}

-- ---- the pieces of a record

pub length-head : (e o : Triple) → length (head_bytes e o) ≡ 12
unfolding head_bytes bytes
length-head e o = refl

pub encode_length : (e o : Triple) (m : List ℕ) → length (encode_record e o m) ≡ 12 + bitmap_length (length m) + length (listed m)
unfolding encode_record
encode_length e o m = rw (length-append, length-append, length-head e o, length-bitmap m)

-- A number that is 0 is not listed, and another takes four bytes.
pub listed_zero : (v : ℕ) → v ≡ 0 → listed (v ∷ []) ≡ []
unfolding listed
listed_zero v e = rw e

pub listed_one : (v : ℕ) → (v ≡ 0 → ⊥) → listed (v ∷ []) ≡ bytes 4 v
unfolding listed bytes
listed_one v d = rw (ne_eqb v 0 d)

-- The first number, then the others.
pub listed_next : (v : ℕ) (vs : List ℕ) → listed (v ∷ vs) ≡ listed (v ∷ []) ++ listed vs
unfolding listed bytes
listed_next v vs = by_test (eqb v 0) (λ t. rw t) (λ t. rw t)

pub length-next : (v : ℕ) (vs : List ℕ) → length (listed (v ∷ vs)) ≡ 4 * bit v + length (listed vs)
unfolding listed bytes bit
length-next v vs = by_test (eqb v 0) (λ t. rw t (omega arith)) (λ t. rw t (omega arith))

-- Three numbers of two bytes.
pub laid_triple : (p x y z : ℕ) (t t₁ t₂ t₃ : List ℕ) → p + 6 ≤ length t → t₁ ≡ laid p (bytes 2 x) t → t₂ ≡ laid (p + 2) (bytes 2 y) t₁ → t₃ ≡ laid (p + 4) (bytes 2 z) t₂
    → t₃ ≡ laid p (bytes 2 x ++ bytes 2 y ++ bytes 2 z) t
unfolding bytes
laid_triple p x y z t t₁ t₂ t₃ h a b c =
    c ∙ ap (laid (p + 4) (bytes 2 z)) (b ∙ ap (laid (p + 2) (bytes 2 y)) a ∙ laid_next p (p + 2) (bytes 2 x) (bytes 2 y) t refl (omega arith))
    ∙ laid_next p (p + 4) (bytes 2 x ++ bytes 2 y) (bytes 2 z) t refl (omega arith)

-- A head is laid by its two halves.
pub laid_head : (e o : Triple) (t t₁ t₂ : List ℕ) → 12 ≤ length t → t₁ ≡ laid 0 (bytes 2 e.x ++ bytes 2 e.y ++ bytes 2 e.z) t
    → t₂ ≡ laid 6 (bytes 2 o.x ++ bytes 2 o.y ++ bytes 2 o.z) t₁ → t₂ ≡ laid 0 (head_bytes e o) t
unfolding bytes head_bytes
laid_head e o t t₁ t₂ h a b =
    b ∙ ap (laid 6 (bytes 2 o.x ++ bytes 2 o.y ++ bytes 2 o.z)) a
    ∙ laid_next 0 6 (bytes 2 e.x ++ bytes 2 e.y ++ bytes 2 e.z) (bytes 2 o.x ++ bytes 2 o.y ++ bytes 2 o.z) t refl (omega arith)

-- A record is laid by its three pieces.
pub laid_encode : (e o : Triple) (m t : List ℕ) → 12 + bitmap_length (length m) + length (listed m) ≤ length t
    → laid (12 + bitmap_length (length m)) (listed m) (laid 12 (bitmap m) (laid 0 (head_bytes e o) t)) ≡ laid 0 (encode_record e o m) t
unfolding encode_record
laid_encode e o m t h =
    let a = length-head e o in
    let b = length-bitmap m in
    let s : length (head_bytes e o ++ bitmap m) ≡ 12 + bitmap_length (length m) = rw (length-append, a, b) in
    let whole = laid_append 0 (head_bytes e o ++ bitmap m) (listed m) t (omega arith) in
    let front = laid_append 0 (head_bytes e o) (bitmap m) t (omega arith) in
    let z : 0 + (12 + bitmap_length (length m)) ≡ 12 + bitmap_length (length m) = omega arith in
    sym (rw (s, front, a, z) at whole)
