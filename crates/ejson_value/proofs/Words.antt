-- Short texts are filled up with zeros and compared eight bytes at a time.
use Rattle.std.proofs.Common.{◌≡◌, ℕ, zero, suc, ◌+◌, ◌-◌, ◌*◌, ◌<◌, ◌≤◌, List, [], ◌∷◌, length, get_or, take, drop, replicate, slice_index, Less, Equal, Greater, Ordering, nat_cmp, is_eq, refl, sym, ap, ap₂, subst, ◌∙◌, arith, true, false, ◌&&◌, nat_eq, Decides, eq-eqb, eqb-true, get_or-drop, length-drop, drop-cons, drop-drop, drop_of_length-le}
use Rattle.std.proofs.lemmas.Bool.{and_parts}
use Rattle.std.proofs.lemmas.Cmp.{ranked}
use Rattle.std.proofs.lemmas.Map.Lookups.{exact_bytes}
use Rattle.std.specs.Ordering.{ordering_then}
use Rattle.std.specs.Cmp.Lexicographic.{slice_cmp}
use Rattle.std.specs.Slice.Scan.{big_endian}
use lib.Lanes.{chunk}
use Rattle.ejson_value.specs.Padding.{HasZerosFrom}

-- ---- orders

below : (x y : ℕ) (r : Ordering) → r ≡ nat_cmp x y → x < y → Less ≡ r
below x y Less e l = refl
below x y Equal e l = let g : x ≡ y = ranked x y Equal e in absurd (omega arith)
below x y Greater e l = let g : y < x = ranked x y Greater e in absurd (omega arith)

alike : (x y : ℕ) (r : Ordering) → r ≡ nat_cmp x y → x ≡ y → Equal ≡ r
alike x y Less e l = let g : x < y = ranked x y Less e in absurd (omega arith)
alike x y Equal e l = refl
alike x y Greater e l = let g : y < x = ranked x y Greater e in absurd (omega arith)

above : (x y : ℕ) (r : Ordering) → r ≡ nat_cmp x y → y < x → Greater ≡ r
above x y Less e l = let g : x < y = ranked x y Less e in absurd (omega arith)
above x y Equal e l = let g : x ≡ y = ranked x y Equal e in absurd (omega arith)
above x y Greater e l = refl

grouped : (p q r : Ordering) → ordering_then p (ordering_then q r) ≡ ordering_then (ordering_then p q) r
grouped Less q r = refl
grouped Equal q r = refl
grouped Greater q r = refl

-- a digit behind each of two numbers
digit : (a b u v : ℕ) (r s : Ordering) → r ≡ nat_cmp a b → s ≡ nat_cmp u v → u < 256 → v < 256 → ordering_then r s ≡ nat_cmp (a * 256 + u) (b * 256 + v)
digit a b u v Less s e f p q = let l : a < b = ranked a b Less e in below (a * 256 + u) (b * 256 + v) _ refl (omega arith)
digit a b u v Greater s e f p q = let l : b < a = ranked a b Greater e in above (a * 256 + u) (b * 256 + v) _ refl (omega arith)
digit a b u v Equal Less e f p q =
    let l : a ≡ b = ranked a b Equal e in
    let m : u < v = ranked u v Less f in
    below (a * 256 + u) (b * 256 + v) _ refl (omega arith)
digit a b u v Equal Equal e f p q =
    let l : a ≡ b = ranked a b Equal e in
    let m : u ≡ v = ranked u v Equal f in
    alike (a * 256 + u) (b * 256 + v) _ refl (omega arith)
digit a b u v Equal Greater e f p q =
    let l : a ≡ b = ranked a b Equal e in
    let m : v < u = ranked u v Greater f in
    above (a * 256 + u) (b * 256 + v) _ refl (omega arith)

decided : (x y : ℕ) (r s : Ordering) → r ≡ nat_cmp x y → (x ≡ y → ⊥) → ordering_then r s ≡ r
decided x y Less s e f = refl
decided x y Equal s e f = let l : x ≡ y = ranked x y Equal e in absurd (f l)
decided x y Greater s e f = refl

pub tied_first : (r s : Ordering) → is_eq r ≡ true → s ≡ ordering_then r s
tied_first Less s e = cc
tied_first Equal s e = refl
tied_first Greater s e = cc

pub decided_first : (r s : Ordering) → is_eq r ≡ false → r ≡ ordering_then r s
decided_first Less s e = refl
decided_first Equal s e = cc
decided_first Greater s e = refl

alone : (r : Ordering) → ordering_then r Equal ≡ r
alone Less = refl
alone Equal = refl
alone Greater = refl

-- ---- zeros

pub zeros : (n k : ℕ) → slice_index (replicate n 0) k ≡ 0
zeros zero k = refl
zeros (suc n) zero = refl
zeros (suc n) (suc k) = zeros n k

-- what is written before place m leaves the zeros behind it
pub still_zeros : (n m : ℕ) (xs ys : List ℕ) → drop m ys ≡ drop m xs → n ≤ m → HasZerosFrom n xs → HasZerosFrom m ys
still_zeros n m xs ys e le h k l =
    let at : m + (k - m) ≡ k = omega arith in
    let old = h (m + (k - m)) (omega arith) in
    let new = sym (get_or-drop m ys (k - m) 0) ∙ ap (λ (zs : List ℕ). get_or zs (k - m) 0) e ∙ get_or-drop m xs (k - m) 0 ∙ old in
    subst (λ (j : ℕ). get_or ys j 0 ≡ 0) at new

-- ---- bytes that are filled up go as those alone, and then by their numbers

least : (x y : ℕ) (r s : Ordering) → r ≡ nat_cmp x y → x ≡ 0 → ordering_then s Less ≡ Less → ordering_then (ordering_then r s) Less ≡ Less
least x y Less s e z h = refl
least x y Equal s e z h = h
least x y Greater s e z h = let g : y < x = ranked x y Greater e in absurd (omega arith)

most : (x y : ℕ) (r s : Ordering) → r ≡ nat_cmp x y → y ≡ 0 → ordering_then s Greater ≡ Greater → ordering_then (ordering_then r s) Greater ≡ Greater
most x y Less s e z h = let g : x < y = ranked x y Less e in absurd (omega arith)
most x y Equal s e z h = h
most x y Greater s e z h = refl

not_above : (xs ys : List ℕ) → length xs ≡ length ys → HasZerosFrom 0 xs → ordering_then (slice_cmp nat_cmp xs ys) Less ≡ Less
not_above [] [] e h = refl
not_above [] (y ∷ ys) e h = refl
not_above (x ∷ xs) [] e h = absurd (omega arith)
not_above (x ∷ xs) (y ∷ ys) e h = least x y _ (slice_cmp nat_cmp xs ys) refl (h 0 (omega arith)) (not_above xs ys (omega arith) (λ k l. h (suc k) (omega arith)))

not_below : (xs ys : List ℕ) → length xs ≡ length ys → HasZerosFrom 0 ys → ordering_then (slice_cmp nat_cmp xs ys) Greater ≡ Greater
not_below [] [] e h = refl
not_below [] (y ∷ ys) e h = absurd (omega arith)
not_below (x ∷ xs) [] e h = refl
not_below (x ∷ xs) (y ∷ ys) e h = most x y _ (slice_cmp nat_cmp xs ys) refl (h 0 (omega arith)) (not_below xs ys (omega arith) (λ k l. h (suc k) (omega arith)))

level : (s : Ordering) → ordering_then s Less ≡ Less → ordering_then s Greater ≡ Greater → Equal ≡ ordering_then s Equal
level Less p q = cc
level Equal p q = refl
level Greater p q = cc

-- the same order, of the numbers that follow
next : (x y : ℕ) (r : Ordering) → r ≡ nat_cmp x y → r ≡ nat_cmp (suc x) (suc y)
next x y Less e = let l : x < y = ranked x y Less e in below (suc x) (suc y) _ refl (omega arith)
next x y Equal e = let l : x ≡ y = ranked x y Equal e in alike (suc x) (suc y) _ refl (omega arith)
next x y Greater e = let l : y < x = ranked x y Greater e in above (suc x) (suc y) _ refl (omega arith)

pub filled_up : (n m : ℕ) (xs ys : List ℕ) → length xs ≡ length ys → n ≤ length xs → m ≤ length ys → HasZerosFrom n xs → HasZerosFrom m ys
    → slice_cmp nat_cmp (take n xs) (take m ys) ≡ ordering_then (slice_cmp nat_cmp xs ys) (nat_cmp n m)
filled_up zero zero xs ys e p q f g = level (slice_cmp nat_cmp xs ys) (not_above xs ys e f) (not_below xs ys e g)
filled_up zero (suc m) xs [] e p q f g = absurd (omega arith)
filled_up zero (suc m) xs (y ∷ ys) e p q f g = sym (not_above xs (y ∷ ys) e f) ∙ ap (ordering_then (slice_cmp nat_cmp xs (y ∷ ys))) (below 0 (suc m) _ refl (omega arith))
filled_up (suc n) zero [] ys e p q f g = absurd (omega arith)
filled_up (suc n) zero (x ∷ xs) ys e p q f g = sym (not_below (x ∷ xs) ys e g) ∙ ap (ordering_then (slice_cmp nat_cmp (x ∷ xs) ys)) (above (suc n) 0 _ refl (omega arith))
filled_up (suc n) (suc m) [] ys e p q f g = absurd (omega arith)
filled_up (suc n) (suc m) (x ∷ xs) [] e p q f g = absurd (omega arith)
filled_up (suc n) (suc m) (x ∷ xs) (y ∷ ys) e p q f g =
    let rest = filled_up n m xs ys (omega arith) (omega arith) (omega arith) (λ k l. f (suc k) (omega arith)) (λ k l. g (suc k) (omega arith)) in
    ap (ordering_then (nat_cmp x y)) (rest ∙ ap (ordering_then (slice_cmp nat_cmp xs ys)) (next n m _ refl))
    ∙ grouped (nat_cmp x y) (slice_cmp nat_cmp xs ys) (nat_cmp (suc n) (suc m))

-- ---- words

abbrev pub AreBytes : List ℕ → Type 0
AreBytes xs = (k : ℕ) → get_or xs k 0 < 256

-- the numbers that the first n bytes spell behind a and b decide, and then the rest
spelt : (n a b : ℕ) (us vs : List ℕ) → n ≤ length us → n ≤ length vs → AreBytes us → AreBytes vs
    → ordering_then (nat_cmp a b) (slice_cmp nat_cmp us vs) ≡ ordering_then (nat_cmp (big_endian a (take n us)) (big_endian b (take n vs))) (slice_cmp nat_cmp (drop n us) (drop n vs))
spelt zero a b us vs p q f g = refl
spelt (suc n) a b [] vs p q f g = absurd (omega arith)
spelt (suc n) a b (u ∷ us) [] p q f g = absurd (omega arith)
spelt (suc n) a b (u ∷ us) (v ∷ vs) p q f g =
    grouped (nat_cmp a b) (nat_cmp u v) (slice_cmp nat_cmp us vs)
    ∙ ap (λ (r : Ordering). ordering_then r (slice_cmp nat_cmp us vs)) (digit a b u v _ _ refl refl (f 0) (g 0))
    ∙ spelt n (a * 256 + u) (b * 256 + v) us vs (omega arith) (omega arith) (λ k. f (suc k)) (λ k. g (suc k))

-- where n bytes spell the same, any i of them can be left out
skipped : (n i a b : ℕ) (us vs : List ℕ) → i ≤ n → n ≤ length us → n ≤ length vs → AreBytes us → AreBytes vs
    → big_endian a (take n us) ≡ big_endian b (take n vs) → (a ≡ b) × (slice_cmp nat_cmp us vs ≡ slice_cmp nat_cmp (drop i us) (drop i vs))
skipped zero zero a b us vs l p q f g e = (e, refl)
skipped zero (suc i) a b us vs l p q f g e = absurd (omega arith)
skipped (suc n) i a b [] vs l p q f g e = absurd (omega arith)
skipped (suc n) i a b (u ∷ us) [] l p q f g e = absurd (omega arith)
skipped (suc n) zero a b (u ∷ us) (v ∷ vs) l p q f g e =
    let rest = skipped n 0 (a * 256 + u) (b * 256 + v) us vs (omega arith) (omega arith) (omega arith) (λ k. f (suc k)) (λ k. g (suc k)) e in
    let small : u < 256 = f 0 in
    let other : v < 256 = g 0 in
    let sum : a * 256 + u ≡ b * 256 + v = rest.0 in
    (omega arith, refl)
skipped (suc n) (suc i) a b (u ∷ us) (v ∷ vs) l p q f g e =
    let rest = skipped n i (a * 256 + u) (b * 256 + v) us vs (omega arith) (omega arith) (omega arith) (λ k. f (suc k)) (λ k. g (suc k)) e in
    let small : u < 256 = f 0 in
    let other : v < 256 = g 0 in
    let sum : a * 256 + u ≡ b * 256 + v = rest.0 in
    (omega arith, ap (λ (r : Ordering). ordering_then r (slice_cmp nat_cmp us vs)) (sym (alike u v _ refl (omega arith))) ∙ rest.1)

-- the number that the eight bytes from place i on spell
abbrev pub word_at : ℕ → List ℕ → ℕ
word_at i xs = big_endian 0 (chunk i 8 xs)

-- n bytes from place i + k on, one by one
abbrev one_by_one : List ℕ → ℕ → ℕ → ℕ → List ℕ
one_by_one xs i k zero = []
one_by_one xs i k (suc n) = get_or xs (i + k) 0 ∷ one_by_one xs i (suc k) n

read : (n : ℕ) (xs : List ℕ) (i k : ℕ) → i + k + n ≤ length xs → chunk (i + k) n xs ≡ one_by_one xs i k n
read zero xs i k l = refl
read (suc n) xs i k l =
    let next : suc (i + k) ≡ i + suc k = omega arith in
    ap (take (suc n)) (drop-cons xs (i + k) 0 (omega arith))
    ∙ ap (λ (zs : List ℕ). get_or xs (i + k) 0 ∷ zs) (ap (λ (m : ℕ). chunk m n xs) next ∙ read n xs i (suc k) (omega arith))

pub eight_are : (xs : List ℕ) (i : ℕ) → i + 8 ≤ length xs
    → get_or xs i 0 * 72057594037927936 + get_or xs (i + 1) 0 * 281474976710656 + get_or xs (i + 2) 0 * 1099511627776 + get_or xs (i + 3) 0 * 4294967296
    + get_or xs (i + 4) 0 * 16777216 + get_or xs (i + 5) 0 * 65536 + get_or xs (i + 6) 0 * 256 + get_or xs (i + 7) 0 ≡ word_at i xs
eight_are xs i l =
    let here : i + 0 ≡ i = omega arith in
    let first : get_or xs (i + 0) 0 ≡ get_or xs i 0 = ap (λ (k : ℕ). get_or xs k 0) here in
    let all : word_at i xs ≡ big_endian 0 (one_by_one xs i 0 8) = ap (big_endian 0) (ap (λ (m : ℕ). chunk m 8 xs) (sym here) ∙ read 8 xs i 0 (omega arith)) in
    omega (arith, first) ∙ sym all

bytes_behind : (i : ℕ) (xs : List ℕ) → AreBytes xs → AreBytes (drop i xs)
bytes_behind i xs f k = subst (λ (x : ℕ). x < 256) (sym (get_or-drop i xs k 0)) (f (i + k))

module _ (xs ys : List ℕ) (p : length xs ≡ 22) (q : length ys ≡ 22) (f : AreBytes xs) (g : AreBytes ys) where
  -- the order of what stands from place i on
  abbrev pub order_from : ℕ → Ordering
  order_from i = slice_cmp nat_cmp (drop i xs) (drop i ys)

  later : (i j : ℕ) → slice_cmp nat_cmp (drop j (drop i xs)) (drop j (drop i ys)) ≡ order_from (i + j)
  later i j k = slice_cmp nat_cmp (drop-drop j i xs k) (drop-drop j i ys k)

  at_place : (i : ℕ) → i + 8 ≤ 22 → order_from i ≡ ordering_then (nat_cmp (word_at i xs) (word_at i ys)) (order_from (i + 8))
  at_place i l =
      spelt 8 0 0 (drop i xs) (drop i ys) (omega (arith, length-drop i xs)) (omega (arith, length-drop i ys)) (bytes_behind i xs f) (bytes_behind i ys g)
      ∙ ap (ordering_then (nat_cmp (word_at i xs) (word_at i ys))) (later i 8)

  -- words that differ tell the order
  pub tells : (i x y : ℕ) → i + 8 ≤ 22 → x ≡ word_at i xs → y ≡ word_at i ys → (x ≡ y → ⊥) → nat_cmp x y ≡ order_from i
  tells i x y l a b h =
      ap₂ nat_cmp a b ∙ sym (at_place i l ∙ decided (word_at i xs) (word_at i ys) _ (order_from (i + 8)) refl (λ e. h (a ∙ e ∙ sym b)))

  -- where words are the same, j of their bytes can be left out
  pub same_behind : (i j x y : ℕ) → i + 8 ≤ 22 → j ≤ 8 → x ≡ word_at i xs → y ≡ word_at i ys → x ≡ y → order_from (i + j) ≡ order_from i
  same_behind i j x y l m a b e =
      let skip = skipped 8 j 0 0 (drop i xs) (drop i ys) m (omega (arith, length-drop i xs)) (omega (arith, length-drop i ys)) (bytes_behind i xs f) (bytes_behind i ys g) (sym a ∙ e ∙ b) in
      sym (skip.1 ∙ later i j)

  -- the last word tells the rest
  pub last_tells : (x y : ℕ) → x ≡ word_at 14 xs → y ≡ word_at 14 ys → nat_cmp x y ≡ order_from 14
  last_tells x y a b =
      let over : order_from 22 ≡ Equal = λ k. slice_cmp nat_cmp (drop_of_length-le xs {i = 22} (omega arith) k) (drop_of_length-le ys {i = 22} (omega arith) k) in
      ap₂ nat_cmp a b ∙ sym (at_place 14 (omega arith) ∙ ap (ordering_then (nat_cmp (word_at 14 xs) (word_at 14 ys))) over ∙ alone _)

  same_words : word_at 0 xs ≡ word_at 0 ys → word_at 8 xs ≡ word_at 8 ys → word_at 14 xs ≡ word_at 14 ys → xs ≡ ys
  same_words a b c =
      let all : order_from 14 ≡ order_from 0 = same_behind 8 6 _ _ (omega arith) (omega arith) refl refl b ∙ same_behind 0 8 _ _ (omega arith) (omega arith) refl refl a in
      exact_bytes xs ys (sym (alike (word_at 14 xs) (word_at 14 ys) _ refl c ∙ last_tells _ _ refl refl ∙ all))

  -- the first words are the same, and whether the others are decides
  pub others_decide : (a b c d : ℕ) → a ≡ word_at 8 xs → b ≡ word_at 8 ys → c ≡ word_at 14 xs → d ≡ word_at 14 ys
      → word_at 0 xs ≡ word_at 0 ys → Decides (nat_eq a b && nat_eq c d) (xs ≡ ys)
  others_decide a b c d i j k l first = (
    λ t.
        let two = and_parts (nat_eq a b) (nat_eq c d) t in
        same_words first (sym i ∙ eqb-true a b two.0 ∙ j) (sym k ∙ eqb-true c d two.1 ∙ l),
    λ z.
        let one = eq-eqb a b (i ∙ ap (word_at 8) z ∙ sym j) in
        let two = eq-eqb c d (k ∙ ap (word_at 14) z ∙ sym l) in
        λ t. one t && two t,
  )
