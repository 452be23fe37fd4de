-- Lists whose numbers are all bytes.
use Rattle.std.proofs.Common.{◌≡◌, ℕ, zero, suc, ◌<◌, true, ltb, List, [], ◌∷◌, ◌++◌, get_or, take, drop, refl}
use Rattle.std.proofs.lemmas.Bool.{and_parts, and_from, lt-ltb, ltb-true}
use Rattle.format.specs.Elements.{all_bytes}

pub all_bytes_from : (b : List ℕ) → ((i : ℕ) → get_or b i 0 < 256) → all_bytes b ≡ true
unfolding all_bytes
all_bytes_from [] h = refl
all_bytes_from (x ∷ b) h = and_from (ltb x 256) (all_bytes b) (lt-ltb x 256 (h 0)) (all_bytes_from b (λ i. h (suc i)))

pub all_bytes_take : (n : ℕ) (b : List ℕ) → all_bytes b ≡ true → all_bytes (take n b) ≡ true
unfolding all_bytes
all_bytes_take zero b h = refl
all_bytes_take (suc n) [] h = h
all_bytes_take (suc n) (x ∷ b) h = let p = and_parts (ltb x 256) (all_bytes b) h in and_from (ltb x 256) (all_bytes (take n b)) p.0 (all_bytes_take n b p.1)

pub all_bytes_drop : (n : ℕ) (b : List ℕ) → all_bytes b ≡ true → all_bytes (drop n b) ≡ true
unfolding all_bytes
all_bytes_drop zero b h = h
all_bytes_drop (suc n) [] h = h
all_bytes_drop (suc n) (x ∷ b) h = all_bytes_drop n b (and_parts (ltb x 256) (all_bytes b) h).1

pub all_bytes_append : (a b : List ℕ) → all_bytes a ≡ true → all_bytes b ≡ true → all_bytes (a ++ b) ≡ true
unfolding all_bytes
all_bytes_append [] b h k = k
all_bytes_append (x ∷ a) b h k = let p = and_parts (ltb x 256) (all_bytes a) h in and_from (ltb x 256) (all_bytes (a ++ b)) p.0 (all_bytes_append a b p.1 k)

-- the first byte, and the others
pub all_bytes_parts : (x : ℕ) (b : List ℕ) → all_bytes (x ∷ b) ≡ true → (x < 256) × (all_bytes b ≡ true)
unfolding all_bytes
all_bytes_parts x b h = let p = and_parts (ltb x 256) (all_bytes b) h in (ltb-true x 256 p.0, p.1)

-- one byte
pub all_bytes_one : (x : ℕ) → x < 256 → all_bytes (x ∷ []) ≡ true
unfolding all_bytes
all_bytes_one x h = and_from (ltb x 256) true (lt-ltb x 256 h) refl
