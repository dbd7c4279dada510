-- Texts that are taken later leave what the items say.
use Rattle.std.specs.Prelude.{◌≡◌, ℕ, zero, suc, ◌<◌, ◌≤◌, List, [], ◌∷◌, ◌++◌, length, map, take, false, refl}
use Rattle.std.proofs.Common.{ap, ap₂, arith}
use Rattle.app_model.specs.App.{App}
use Rattle.session_model.specs.Items.{Item}
use Rattle.session_model.specs.Items as item
use Rattle.session_model.specs.Taking.{taken_text, is_connected_by}
use Rattle.session_journal_laws.specs.declared.stored.Stored.{Stored}
use Rattle.session_journal_laws.specs.declared.stored.Stored.TheVariants as stored
use Rattle.session_journal_laws.specs.Resolved.{text_at, taken_at, item_or_pong, message_or_pong, message_at, subscribed, called, resolved, IsPlaced, ArePlaced}

text-more : (taken more : List (List ℕ)) (n : ℕ) → n < length taken → text_at (taken ++ more) n ≡ text_at taken n
text-more [] more n less = absurd (omega (arith, less))
text-more (t ∷ taken) more zero less = refl
text-more (t ∷ taken) more (suc n) less = text-more taken more n (omega (arith, less))

take-more : (taken more : List (List ℕ)) (n : ℕ) → n < length taken → take n (taken ++ more) ≡ take n taken
take-more [] more n less = absurd (omega (arith, less))
take-more (t ∷ taken) more zero less = refl
take-more (t ∷ taken) more (suc n) less = ap (λ ts. t ∷ ts) (take-more taken more n (omega (arith, less)))

taken-more : (taken more : List (List ℕ)) (n : ℕ) → n < length taken → taken_at (taken ++ more) n ≡ taken_at taken n
taken-more taken more n less = ap₂ (λ ts t. taken_text (is_connected_by false ts) t) (take-more taken more n less) (text-more taken more n less)

message-more : (taken more : List (List ℕ)) (n : ℕ) → n < length taken → message_at (taken ++ more) n ≡ message_at taken n
message-more taken more n less = ap message_or_pong (taken-more taken more n less)

pub resolved-more : (app : App) (number : ℕ) (taken more : List (List ℕ)) (i : Stored) → IsPlaced (length taken) i →
    resolved app number (taken ++ more) i ≡ resolved app number taken i
resolved-more app number taken more (stored.Ping place) p = ap item_or_pong (taken-more taken more place p)
resolved-more app number taken more (stored.Bad place) p = ap item_or_pong (taken-more taken more place p)
resolved-more app number taken more (stored.Open s place) p = ap (subscribed app s) (message-more taken more place p)
resolved-more app number taken more (stored.Same place) p = ap (λ m. item.same m) (message-more taken more place p)
resolved-more app number taken more (stored.Nosub place fault) p = ap (λ m. item.nosub m fault) (message-more taken more place p)
resolved-more app number taken more (stored.Close s place) p = ap (λ m. item.close s m) (message-more taken more place p)
resolved-more app number taken more (stored.Call k place) p = ap (called number k) (message-more taken more place p)
resolved-more app number taken more (stored.Unknown place) p = ap (λ m. item.unknown m) (message-more taken more place p)
resolved-more app number taken more i p = refl

pub items-more : (app : App) (number : ℕ) (taken more : List (List ℕ)) (items : List Stored) → ArePlaced (length taken) items →
    map (resolved app number (taken ++ more)) items ≡ map (resolved app number taken) items
items-more app number taken more [] p = refl
items-more app number taken more (i ∷ items) p =
    ap₂ (λ (x : Item) (xs : List Item). x ∷ xs) (resolved-more app number taken more i p.0) (items-more app number taken more items p.1)

placed_one : (n m : ℕ) (i : Stored) → n ≤ m → IsPlaced n i → IsPlaced m i
placed_one n m (stored.Ping place) le p = omega (arith, le, p)
placed_one n m (stored.Bad place) le p = omega (arith, le, p)
placed_one n m (stored.Open s place) le p = omega (arith, le, p)
placed_one n m (stored.Same place) le p = omega (arith, le, p)
placed_one n m (stored.Nosub place fault) le p = omega (arith, le, p)
placed_one n m (stored.Close s place) le p = omega (arith, le, p)
placed_one n m (stored.Call k place) le p = omega (arith, le, p)
placed_one n m (stored.Unknown place) le p = omega (arith, le, p)
placed_one n m i le p = tt

pub placed-more : (n m : ℕ) (items : List Stored) → n ≤ m → ArePlaced n items → ArePlaced m items
placed-more n m [] le p = tt
placed-more n m (i ∷ items) le p = (placed_one n m i le p.0, placed-more n m items le p.1)

pub placed-append : (n : ℕ) (items : List Stored) (i : Stored) → ArePlaced n items → IsPlaced n i → ArePlaced n (items ++ i ∷ [])
placed-append n [] i a p = (p, tt)
placed-append n (j ∷ items) i a p = (a.0, placed-append n items i a.1 p)

-- the text that was taken last
pub last_taken : (taken : List (List ℕ)) (t : List ℕ) → taken_at (taken ++ t ∷ []) (length taken) ≡ taken_text (is_connected_by false taken) t
last_taken taken t = ap₂ (λ ts x. taken_text (is_connected_by false ts) x) (first taken) (last taken)
  where
    first : (xs : List (List ℕ)) → take (length xs) (xs ++ t ∷ []) ≡ xs
    first [] = refl
    first (x ∷ xs) = ap (λ ts. x ∷ ts) (first xs)

    last : (xs : List (List ℕ)) → text_at (xs ++ t ∷ []) (length xs) ≡ t
    last [] = refl
    last (x ∷ xs) = last xs
