-- What is kept is little.
use Rattle.std.specs.Prelude.{◌≡◌, ℕ, zero, suc, ◌+◌, ◌*◌, ◌≤◌, ◌<◌, List, [], ◌∷◌, ◌++◌, map, length, drop, slice_get, slice_set, sum_by, Some, refl}
use Rattle.std.specs.List.{AllByRecursion, remove}
use Rattle.std.proofs.Common.{ap, ap₂, sym, subst, ◌∙◌, arith}
use Rattle.std.proofs.lemmas.Option.{same_Some, none-some}
use Rattle.std.proofs.lemmas.List.Sums.{sum_by-cons}
use Rattle.std.proofs.lemmas.List.{length-append}
use Rattle.std.proofs.lemmas.List.Edits.{length-remove}
use Rattle.value_model.specs.Val.{Val}
use Rattle.ejson_value.specs.declared.change.Publish.{Publish}
use Rattle.multiplexer.specs.declared.entry.Told.{Told}
use Rattle.multiplexer.specs.Bounds.{max_sources, max_entries, max_bytes, bytes_told, bytes_in, counted_one, counted_in, IsSmall, AreBounded, kept_in, bytes_kept}
use Rattle.multiplexer.specs.Inside.{seen_entry, news_told}
use Rattle.multiplexer.specs.Telling.{AnEntry, ASource}
use Rattle.multiplexer.specs.Sources.{source_of}
use Rattle.multiplexer.proofs.Putting.{drop_more}
use Rattle.multiplexer.proofs.Sources.{all_with, all_more, all_removed}

-- ---- bytes that are counted

bytes_cons : (one : AnEntry) (ones : List AnEntry) → bytes_in (one ∷ ones) ≡ bytes_told one.told + bytes_in ones
bytes_cons one ones = sum_by-cons (λ (e : AnEntry). bytes_told e.told) one ones

pub counted_cons : (one : AnEntry) (ones : List AnEntry) → counted_in (one ∷ ones) ≡ counted_one one.told + counted_in ones
counted_cons one ones = sum_by-cons (λ (e : AnEntry). counted_one e.told) one ones

pub counted_with : (ones : List AnEntry) (one : AnEntry) → counted_in (ones ++ one ∷ []) ≡ counted_in ones + counted_one one.told
counted_with [] one = let e : counted_one one.told + 0 ≡ 0 + counted_one one.told = omega arith in counted_cons one [] ∙ e
counted_with (x ∷ ones) one =
    let e : counted_one x.told + (counted_in ones + counted_one one.told) ≡ (counted_one x.told + counted_in ones) + counted_one one.told = omega arith in
    counted_cons x (ones ++ one ∷ []) ∙ (ap (λ n. counted_one x.told + n) (counted_with ones one) ∙ (e ∙ ap (λ n. n + counted_one one.told) (sym (counted_cons x ones))))

map_push : {A B : Type 0} (f : A → B) (xs : List A) (y : A) → map f (xs ++ y ∷ []) ≡ map f xs ++ f y ∷ []
map_push f [] y = refl
map_push f (x ∷ xs) y = ap (λ ys. f x ∷ ys) (map_push f xs y)

-- one comes
pub counted_push : (items : List Told) (one : Told) → counted_in (map seen_entry (items ++ one ∷ [])) ≡ counted_in (map seen_entry items) + counted_one (news_told one)
counted_push items one = ap counted_in (map_push seen_entry items one) ∙ counted_with (map seen_entry items) (seen_entry one)

-- the first goes
pub counted_drop : (items : List Told) (one : Told) → slice_get items 0 ≡ Some one → counted_in (map seen_entry items) ≡ counted_one (news_told one) + counted_in (map seen_entry (drop 1 items))
counted_drop [] one is = absurd (none-some one is)
counted_drop (x ∷ items) one is =
    counted_cons (seen_entry x) (map seen_entry items) ∙ ap (λ (t : Told). counted_one (news_told t) + counted_in (map seen_entry items)) (same_Some x one is)

-- what is left once the first went
pub record Forgets (items new : List Told) (one : Told) (bytes : ℕ) : Type 0 where
  pub there : counted_one (news_told one) ≤ bytes
  pub left : bytes ≡ counted_one (news_told one) + counted_in (map seen_entry new)
  pub many : length items ≡ length new + 1
  pub behind : new ≡ drop 1 items

pub forgets : (items new : List Told) (one : Told) (bytes : ℕ) → slice_get items 0 ≡ Some one → new ≡ remove items 0 → bytes ≡ counted_in (map seen_entry items) → Forgets items new one bytes
forgets [] new one bytes is removed counted = absurd (none-some one is)
forgets (x ∷ items) new one bytes is removed counted =
    let all : bytes ≡ counted_one (news_told one) + counted_in (map seen_entry new) = counted ∙ (counted_drop (x ∷ items) one is ∙ ap (λ (ts : List Told). counted_one (news_told one) + counted_in (map seen_entry ts)) (sym removed)) in
    record {
      there = omega (arith, all);
      left = all;
      many = omega (arith, ap length removed);
      behind = removed;
    }

-- of one entry little is counted, and of a few
pub counted_little : (told : List Publish) → counted_one told ≤ 4294967296
counted_little told = omega arith

pub counted_few : (ones : List AnEntry) → counted_in ones ≤ length ones * 4294967296
counted_few [] = omega arith
counted_few (one ∷ ones) = omega (arith, counted_cons one ones, counted_few ones)

-- where little is counted, all is
pub counted_all : (ones : List AnEntry) → counted_in ones ≤ max_bytes → bytes_in ones ≡ counted_in ones
counted_all [] le = refl
counted_all (one ∷ ones) le =
    let few : counted_in ones ≤ max_bytes = omega (arith, counted_cons one ones, le) in
    let all : bytes_told one.told ≡ counted_one one.told = omega (arith, counted_cons one ones, le) in
    bytes_cons one ones ∙ (ap₂ (λ (a b : ℕ). a + b) all (counted_all ones few) ∙ sym (counted_cons one ones))

pub counted_light : (ones : List AnEntry) → counted_in ones ≤ max_bytes → bytes_in ones ≤ max_bytes
counted_light ones le = omega (arith, counted_all ones le, le)

-- where none is kept nothing is counted
pub counted_none : (ones : List AnEntry) → max_bytes < counted_in ones → 0 < length ones
counted_none [] more = absurd (omega (arith, more))
counted_none (one ∷ ones) more = omega arith

-- what is told decides it
told_same : (xs ys : List Told) → map news_told xs ≡ map news_told ys → map (λ (e : AnEntry). e.told) (map seen_entry xs) ≡ map (λ (e : AnEntry). e.told) (map seen_entry ys)
told_same xs ys same = told_of xs ∙ (same ∙ sym (told_of ys))
  where
    told_of : (xs : List Told) → map (λ (e : AnEntry). e.told) (map seen_entry xs) ≡ map news_told xs
    told_of [] = refl
    told_of (x ∷ xs) = ap (λ (rest : List (List Publish)). news_told x ∷ rest) (told_of xs)

sum_told : (f : List Publish → ℕ) (ones : List AnEntry) → sum_by (λ (e : AnEntry). f e.told) ones ≡ sum_by f (map (λ (e : AnEntry). e.told) ones)
sum_told f [] = refl
sum_told f (one ∷ ones) =
    sum_by-cons (λ (e : AnEntry). f e.told) one ones ∙ (ap (λ n. f one.told + n) (sum_told f ones) ∙ sym (sum_by-cons f one.told (map (λ (e : AnEntry). e.told) ones)))

sum_same : (f : List Publish → ℕ) (xs ys : List Told) → map news_told xs ≡ map news_told ys → sum_by (λ (e : AnEntry). f e.told) (map seen_entry xs) ≡ sum_by (λ (e : AnEntry). f e.told) (map seen_entry ys)
sum_same f xs ys same = sum_told f (map seen_entry xs) ∙ (ap (sum_by f) (told_same xs ys same) ∙ sym (sum_told f (map seen_entry ys)))

pub counted_same : (xs ys : List Told) → map news_told xs ≡ map news_told ys → counted_in (map seen_entry xs) ≡ counted_in (map seen_entry ys)
counted_same xs ys same = sum_same counted_one xs ys same

pub bytes_same : (xs ys : List Told) → map news_told xs ≡ map news_told ys → bytes_in (map seen_entry xs) ≡ bytes_in (map seen_entry ys)
bytes_same xs ys same = sum_same bytes_told xs ys same

-- ---- one is written in the place of another

pub map_written : {A B : Type 0} (f : A → B) (xs : List A) (i : ℕ) (x y : A) → slice_get xs i ≡ Some x → f y ≡ f x → map f (slice_set xs i y) ≡ map f xs
map_written f [] i x y at same = refl
map_written f (z ∷ xs) zero x y at same = ap (λ b. b ∷ map f xs) (same ∙ ap f (sym (same_Some z x at)))
map_written f (z ∷ xs) (suc i) x y at same = ap (λ bs. f z ∷ bs) (map_written f xs i x y at same)

length_written : {A : Type 0} (xs : List A) (i : ℕ) (y : A) → length (slice_set xs i y) ≡ length xs
length_written [] i y = refl
length_written (x ∷ xs) zero y = refl
length_written (x ∷ xs) (suc i) y = ap suc (length_written xs i y)

-- ---- all sources

pub bounded_with : (sources : List ASource) (place : ℕ) (new : ASource) → IsSmall new → AreBounded sources → AreBounded (slice_set sources place new)
bounded_with sources place new small b = record {
  many = subst (λ n. n ≤ max_sources) (sym (length_written sources place new)) b.many;
  each = all_with IsSmall sources place new b.each small;
}

pub bounded_none : AreBounded []
bounded_none = record { many = omega arith; each = tt }

-- one goes
pub bounded_removed : (sources : List ASource) (place : ℕ) → place < length sources → AreBounded sources → AreBounded (remove sources place)
bounded_removed sources place within b = record {
  many = omega (arith, length-remove sources place within, b.many);
  each = all_removed IsSmall sources place b.each;
}

pub bounded_more : (sources : List ASource) (name : List ℕ) (params : List Val) (from : ℕ) → length sources < max_sources → AreBounded sources → AreBounded (sources ++ source_of name params from ∷ [])
bounded_more sources name params from room b = record {
  many = omega (arith, room, length-append sources (source_of name params from ∷ []));
  each = all_more IsSmall sources (source_of name params from) b.each (record { few = omega arith; light = omega arith });
}

kept_cons : (s : ASource) (sources : List ASource) → kept_in (s ∷ sources) ≡ length s.ones + kept_in sources
kept_cons s sources = sum_by-cons (λ (x : ASource). length x.ones) s sources

-- those of the next source too
pub kept_step : (sources : List ASource) (place : ℕ) (s : ASource) (kept total : ℕ) → slice_get sources place ≡ Some s → kept + kept_in (drop place sources) ≡ total → (kept + length s.ones) + kept_in (drop (place + 1) sources) ≡ total
kept_step sources place s kept total at is = omega (arith, ap kept_in (drop_more sources place s at), kept_cons s (drop (place + 1) sources), is)

light_cons : (s : ASource) (sources : List ASource) → bytes_kept (s ∷ sources) ≡ bytes_in s.ones + bytes_kept sources
light_cons s sources = sum_by-cons (λ (x : ASource). bytes_in x.ones) s sources

few_each : (sources : List ASource) → AllByRecursion IsSmall sources → kept_in sources ≤ length sources * max_entries
few_each [] all = omega arith
few_each (s ∷ sources) all = omega (arith, kept_cons s sources, all.0.few, few_each sources all.1)

light_each : (sources : List ASource) → AllByRecursion IsSmall sources → bytes_kept sources ≤ length sources * max_bytes
light_each [] all = omega arith
light_each (s ∷ sources) all = omega (arith, light_cons s sources, all.0.light, light_each sources all.1)

module _ (sources : List ASource) (b : AreBounded sources) where
  pub few_kept : kept_in sources ≤ 4096
  few_kept = omega (arith, few_each sources b.each, b.many)

  pub little_kept : bytes_kept sources ≤ 16777216
  little_kept = omega (arith, light_each sources b.each, b.many)
