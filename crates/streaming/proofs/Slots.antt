-- A ring of slots as a list.
use Rattle.std.proofs.lemmas.Grind.{common_steps}
use Rattle.std.proofs.Common.{◌≡◌, ◌≢◌, ◌<◌, ◌≤◌, ◌⊎◌, ◌-◌, ◌%◌, ℕ, zero, suc, ◌+◌, List, [], ◌∷◌, ◌++◌, length, take, drop, set, refl}
use Rattle.std.proofs.Common.{sym, ap, ◌∙◌, ⊎_elim, arith, length-append, length-drop, length-set}
use Rattle.std.proofs.Common.{length-take-le}
use Rattle.std.specs.Prelude.{slice_get}
use Rattle.std.proofs.lemmas.Bool.{cases_eq, cases_lt}
use Rattle.circular_buffer.proofs.Places.{slice_get-append_left, slice_get-append_right, slice_get-drop, slice_get-last, slice_get-push, slice_get-set_other, slice_get-set_same, slice_get-take}
use Rattle.std.proofs.Math.Nat.{add-mod_left, mod-eq_of_lt, mod-lt}
use Rattle.streaming.specs.Slots.{ring_of, slot_in}
use Rattle.one_thread.proofs.Ring.{mod_first}

-- Numbers

pub slot_small : (n s i : ℕ) → 0 < n → slot_in n s i < n
slot_small n s i h = mod-lt (s + i) h

-- around the end once at the most
near : (n s i : ℕ) → s < n → i ≤ n → (slot_in n s i ≡ s + i) ⊎ (slot_in n s i + n ≡ s + i)
near n s i ls li = grind (arith, common_steps, add-mod_left n (s + i - n), cases_lt (s + i) n, mod-eq_of_lt)

pub slots_apart : (n s i j : ℕ) → s < n → i < n → j < n → i ≢ j → slot_in n s i ≢ slot_in n s j
slots_apart n s i j ls li lj ne e = grind (arith, common_steps, near)

next_slot : (n s i : ℕ) → slot_in n (slot_in n s 1) i ≡ slot_in n s (1 + i)
next_slot n s i = mod_first (s + 1) i n ∙ ap (λ k. k % n) (omega arith)

module _ {X : Type 0} where
  -- lists that give the same
  pub same_gets : (xs ys : List X) → length xs ≡ length ys → ((i : ℕ) → i < length xs → slice_get xs i ≡ slice_get ys i) → xs ≡ ys
  same_gets [] [] e h = refl
  same_gets [] (y ∷ ys) e h = absurd (omega (arith, e))
  same_gets (x ∷ xs) [] e h = absurd (omega (arith, e))
  same_gets (x ∷ xs) (y ∷ ys) e h =
      let first : 0 < length (x ∷ xs) = omega arith in
      let same : x ≡ y = cc (h 0 first) in
      let rest : xs ≡ ys = same_gets xs ys (omega (arith, e)) (λ i l. let more : suc i < length (x ∷ xs) = omega (arith, l) in h (suc i) more) in
      ap (λ z. z ∷ xs) same ∙ ap (λ l. y ∷ l) rest

  -- of more slots the first
  pub take_set : (n : ℕ) (xs : List X) (k : ℕ) (x : X) → take n (set xs k x) ≡ set (take n xs) k x
  take_set zero xs k x = refl
  take_set (suc n) [] k x = refl
  take_set (suc n) (y ∷ ys) zero x = refl
  take_set (suc n) (y ∷ ys) (suc k) x = ap (λ l. y ∷ l) (take_set n ys k x)

module _ {X : Type 0} (z : ℕ) where
  -- the slots, twice
  twice : (xs : List X) (s i : ℕ) → length xs ≡ z → s < z → i < z → slice_get (xs ++ xs) (s + i) ≡ slice_get xs (slot_in z s i)
  twice xs s i n ls li = grind (arith, common_steps, slot_small, slice_get-append_left, slice_get-append_right, near)

  pub ring_length : (xs : List X) (s n : ℕ) → length xs ≡ z → s < z → n ≤ z → length (ring_of xs s n) ≡ n
  ring_length xs s n e ls ln = length-take-le n (drop s (xs ++ xs)) (omega (arith, length-drop s (xs ++ xs), length-append xs xs, e, ls, ln))

  pub ring_get : (xs : List X) (s n i : ℕ) → length xs ≡ z → s < z → n ≤ z → i < n → slice_get (ring_of xs s n) i ≡ slice_get xs (slot_in z s i)
  ring_get xs s n i e ls ln li = grind (arith, common_steps, slice_get-take, slice_get-drop, twice)

  -- an item joins
  pub ring_push : (xs : List X) (s n : ℕ) (x : X) → length xs ≡ z → s < z → n < z → ring_of (set xs (slot_in z s n) x) s (n + 1) ≡ ring_of xs s n ++ x ∷ []
  ring_push xs s n x e ls ln =
      let ys = set xs (slot_in z s n) x in
      let long : length ys ≡ z = length-set xs (slot_in z s n) x ∙ e in
      let inside : slot_in z s n < length xs = omega (arith, slot_small z s n (omega (arith, ls)), e) in
      let more : n + 1 ≤ z = omega (arith, ln) in
      let le : n ≤ z = omega (arith, ln) in
      let size : length (ring_of xs s n) ≡ n = ring_length xs s n e ls le in
      same_gets (ring_of ys s (n + 1)) (ring_of xs s n ++ x ∷ [])
      (omega (arith, ring_length ys s (n + 1) long ls more, length-append (ring_of xs s n) (x ∷ []), size))
      (λ j l.
      let lj : j < n + 1 = omega (arith, l, ring_length ys s (n + 1) long ls more) in
      ring_get ys s (n + 1) j long ls more lj
      ∙ ⊎_elim
      (λ (same : j ≡ n). ap (λ k. slice_get ys (slot_in z s k)) same ∙ slice_get-set_same xs (slot_in z s n) x inside ∙ sym (slice_get-last (ring_of xs s n) x j (same ∙ sym size)))
      (λ other.
      let less : j < n = omega (arith, lj, other) in
      slice_get-set_other xs (slot_in z s n) (slot_in z s j) x (slots_apart z s j n ls (omega (arith, lj, ln)) (omega (arith, ln)) other)
      ∙ sym (slice_get-push (ring_of xs s n) x j (λ q. other (q ∙ size)) ∙ ring_get xs s n j e ls le less))
      (cases_eq j n))

  -- the oldest leaves
  pub ring_shift : (xs : List X) (s n : ℕ) → length xs ≡ z → s < z → n ≤ z → 0 < n → ring_of xs (slot_in z s 1) (n - 1) ≡ drop 1 (ring_of xs s n)
  ring_shift xs s n e ls ln some =
      let next : slot_in z s 1 < z = slot_small z s 1 (omega (arith, ls)) in
      let less : n - 1 ≤ z = omega (arith, ln) in
      let size : length (ring_of xs (slot_in z s 1) (n - 1)) ≡ n - 1 = ring_length xs (slot_in z s 1) (n - 1) e next less in
      same_gets (ring_of xs (slot_in z s 1) (n - 1)) (drop 1 (ring_of xs s n))
      (omega (arith, size, length-drop 1 (ring_of xs s n), ring_length xs s n e ls ln))
      (λ j l.
      let lj : j < n - 1 = omega (arith, l, size) in
      let more : 1 + j < n = omega (arith, lj) in
      ring_get xs (slot_in z s 1) (n - 1) j e next less lj
      ∙ ap (slice_get xs) (next_slot z s j)
      ∙ sym (slice_get-drop 1 (ring_of xs s n) j (1 + j) refl ∙ ring_get xs s n (1 + j) e ls ln more))
