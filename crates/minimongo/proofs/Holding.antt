-- Walks over what is saved of documents.
use Rattle.std.proofs.Common.{◌≡◌, ◌≢◌, ℕ, arith, ◌+◌, ◌<◌, get_or, drop, length, Bool, true, false, cond, not, IsTrue, ◌↔◌, ◌≤◌, ◌&&◌, ◌||◌, List, [], ◌∷◌, ◌++◌, Option, Some, None, is_some, IfSome, refl, sym, ap, ap₂, ◌∙◌, subst, true≢false, nat_cmp}
use Rattle.std.specs.Prelude.{option_and_then, Result, Ok, Err, OnOk, OnErr}
use Rattle.std.specs.List.{list_any, list_all}
use Rattle.std.specs.List.Sorted.{IsStrictlySortedBy}
use Rattle.std.specs.Ordering.{eq_by_cmp}
use Rattle.std.specs.BTreeSet.{BTreeSet, contains}
use Rattle.std.proofs.lemmas.Cmp.{nat_cmp_total, eq_by_cmp_equiv}
use Rattle.std.proofs.lemmas.Grind.{get_or_default_zero}
use Rattle.std.proofs.lemmas.List.{drop_all}
use Rattle.map_model.specs.Maps.{at, IsSorted, collect, keyed}
use Rattle.map_model.specs.Differences.{Step}
use Rattle.map_model.specs.MapLaws.{same_maps, key_is, eq_by_cmp-self, at-collect, sorted-collect, at-filter_map_entries, sorted-filter_map_entries}
use Rattle.value_model.specs.Val.{Val, Entries}
use Rattle.view_model.specs.Pending.{is_among, without_numbers, unless_none}
use Rattle.view_model.specs.PendingLaws.{number_order}
use Rattle.ejson_value.specs.declared.key.Key.{Key}
use Rattle.ejson_value.specs.Key.{key_cmp, key_order}
use Rattle.minimongo.specs.declared.save.Save.{Save}
use Rattle.minimongo.specs.Originals.{Original, Originals, with_holders, holders_in, is_holder, saves_of, joined, saved_by, held_still, left_by, due_at, due, some_save, served}
use Rattle.minimongo.specs.OriginalLaws.{joined_again, joined_held, joined_holders, left_held, left_holders, left_none, left_absent, left_then, among_with, among_without}
use Rattle.minimongo.specs.Index.{Lists, is_key_among, is_listed, is_listed_by, IsWhole}
use Rattle.minimongo.proofs.Listing.{next_of}

-- ---- results

pub either_result : {A E P Q C : Type 0} (r : Result A E) → OnOk r P → OnErr r Q → (P → C) → (Q → C) → C
either_result (Ok a) p q f g = f p
either_result (Err e) p q f g = g q

pub on_ok : {A E P Q : Type 0} (r : Result A E) → (P → Q) → OnOk r P → OnOk r Q
on_ok (Ok a) f p = f p
on_ok (Err e) f p = p

pub on_err : {A E P Q : Type 0} (r : Result A E) → (P → Q) → OnErr r P → OnErr r Q
on_err (Ok a) f p = p
on_err (Err e) f p = f p

pub at_err : {A E P : Type 0} (r : Result A E) → P → OnErr r P
at_err (Ok a) p = tt
at_err (Err e) p = p

-- ---- one document in another form

either_way : (key k : Key) → eq_by_cmp key_cmp key k ≡ eq_by_cmp key_cmp k key
either_way key k = (eq_by_cmp_equiv key_order.total).symm key k

-- what is found at a key is changed
module _ (old new : Originals) (key : Key) (o o' : Original) (found : Some o ≡ at key_cmp old key) (updates : (k : Key) → at key_cmp new k ≡ cond (eq_by_cmp key_cmp key k) (Some o') (at key_cmp old k)) where
  pub found_changed : (f : Option Original → Option Original) → Some o' ≡ f (Some o) → (k : Key) → at key_cmp new k ≡ cond (eq_by_cmp key_cmp k key) (f (at key_cmp old k)) (at key_cmp old k)
  found_changed f is k =
      updates k
      ∙ elim (eq_by_cmp key_cmp key k) as (λ b. eq_by_cmp key_cmp key k ≡ b → cond b (Some o') (at key_cmp old k) ≡ cond b (f (at key_cmp old k)) (at key_cmp old k)) [
        | true ↦ λ t. is ∙ ap f (found ∙ ap (at key_cmp old) (key_is key_order key k t))
        | false ↦ λ t. refl
      ] refl
      ∙ ap (λ b. cond b (f (at key_cmp old k)) (at key_cmp old k)) (either_way key k)

  pub found_same : o' ≡ o → (k : Key) → at key_cmp new k ≡ at key_cmp old k
  found_same is k = found_changed (λ w. w) (ap Some is) k ∙ elim (eq_by_cmp key_cmp k key) as (λ b. cond b (at key_cmp old k) (at key_cmp old k) ≡ at key_cmp old k) [ true ↦ refl | false ↦ refl ]

  pub found_here : at key_cmp new key ≡ Some o'
  found_here = updates key ∙ ap (λ b. cond b (Some o') (at key_cmp old key)) (eq_by_cmp-self key_order key)

  pub found_others : (k : Key) → eq_by_cmp key_cmp k key ≡ false → at key_cmp new k ≡ at key_cmp old k
  found_others k other = updates k ∙ ap (λ b. cond b (Some o') (at key_cmp old k)) (either_way key k ∙ other)

-- nothing is found at the key
pub nothing_changed : (old : Originals) (key : Key) (f : Option Original → Option Original) → f None ≡ None → None ≡ at key_cmp old key → (k : Key) → at key_cmp old k ≡ cond (eq_by_cmp key_cmp k key) (f (at key_cmp old k)) (at key_cmp old k)
nothing_changed old key f none found k = elim (eq_by_cmp key_cmp k key) as (λ b. eq_by_cmp key_cmp k key ≡ b → at key_cmp old k ≡ cond b (f (at key_cmp old k)) (at key_cmp old k)) [
  | true ↦ λ t. let absent : at key_cmp old k ≡ None = ap (at key_cmp old) (key_is key_order k key t) ∙ sym found in absent ∙ sym (ap f absent ∙ none)
  | false ↦ λ t. refl
] refl

-- a new original
pub first_put : (old new : Originals) (key key' : Key) (o : Original) → key' ≡ key → ((k : Key) → at key_cmp new k ≡ cond (eq_by_cmp key_cmp key' k) (Some o) (at key_cmp old k)) → (k : Key) → at key_cmp new k ≡ cond (eq_by_cmp key_cmp k key) (Some o) (at key_cmp old k)
first_put old new key key' o same updates k = updates k ∙ ap (λ b. cond b (Some o) (at key_cmp old k)) (ap (λ q. eq_by_cmp key_cmp q k) same ∙ either_way key k)

-- the first save of a document that nobody held is what joining makes of it
pub first_joins : (old new : Originals) (key : Key) (n : ℕ) (doc : Option Entries) → None ≡ at key_cmp old key → ((k : Key) → at key_cmp new k ≡ cond (eq_by_cmp key_cmp k key) (Some (joined n doc None)) (at key_cmp old k)) →
    (k : Key) → at key_cmp new k ≡ cond (eq_by_cmp key_cmp k key) (Some (joined n doc (at key_cmp old k))) (at key_cmp old k)
first_joins old new key n doc found made k = made k ∙ elim (eq_by_cmp key_cmp k key) as (λ b. eq_by_cmp key_cmp k key ≡ b → cond b (Some (joined n doc None)) (at key_cmp old k) ≡ cond b (Some (joined n doc (at key_cmp old k))) (at key_cmp old k)) [
  | true ↦ λ t. ap (λ w. Some (joined n doc w)) (found ∙ sym (ap (at key_cmp old) (key_is key_order k key t)))
  | false ↦ λ t. refl
] refl

last_left : (n : ℕ) (o : Original) → not (is_some (unless_none (without_numbers (n ∷ []) o.holders))) ≡ true → left_by (n ∷ []) (Some o) ≡ None
last_left n o = by (unless_none (without_numbers (n ∷ []) o.holders))
  where
    by : (w : Option (List ℕ)) → not (is_some w) ≡ true → held_still o w ≡ None
    by None e = refl
    by (Some hs) e = cc e

still_left : (n : ℕ) (o : Original) → not (is_some (unless_none (without_numbers (n ∷ []) o.holders))) ≡ false → Some (with_holders (without_numbers (n ∷ []) o.holders) o) ≡ left_by (n ∷ []) (Some o)
still_left n o = by (without_numbers (n ∷ []) o.holders)
  where
    by : (hs : List ℕ) → not (is_some (unless_none hs)) ≡ false → Some (with_holders hs o) ≡ held_still o (unless_none hs)
    by [] e = cc e
    by (h ∷ hs) e = refl

-- a simulation lets a found original go
module _ (old new : Originals) (key : Key) (n : ℕ) (o o' : Original) (last : Bool) (found : Some o ≡ at key_cmp old key) (updates : (k : Key) → at key_cmp new k ≡ cond (eq_by_cmp key_cmp key k) (Some o') (at key_cmp old k))
    (gone : o' ≡ with_holders (without_numbers (n ∷ []) o.holders) o) (is_last : last ≡ not (is_some (unless_none (without_numbers (n ∷ []) o.holders)))) where
  pub lets_here : last ≡ false → at key_cmp new key ≡ left_by (n ∷ []) (at key_cmp old key)
  lets_here e = found_here old new key o o' found updates ∙ ap Some gone ∙ still_left n o (sym is_last ∙ e) ∙ ap (left_by (n ∷ [])) found

  pub lets_last : last ≡ true → left_by (n ∷ []) (at key_cmp old key) ≡ None
  lets_last e = ap (left_by (n ∷ [])) (sym found) ∙ last_left n o (sym is_last ∙ e)

-- once a key has let go, in one step or two
pub all_let_go : (old mid new : Originals) (key : Key) (n : ℕ) → ((k : Key) → eq_by_cmp key_cmp k key ≡ false → at key_cmp mid k ≡ at key_cmp old k) → left_by (n ∷ []) (at key_cmp old key) ≡ None →
    ((k : Key) → at key_cmp new k ≡ cond (eq_by_cmp key_cmp key k) None (at key_cmp mid k)) → (k : Key) → at key_cmp new k ≡ cond (eq_by_cmp key_cmp k key) (left_by (n ∷ []) (at key_cmp old k)) (at key_cmp old k)
all_let_go old mid new key n others last updates k = updates k ∙ ap (λ b. cond b None (at key_cmp mid k)) (either_way key k) ∙ elim (eq_by_cmp key_cmp k key) as (λ b. eq_by_cmp key_cmp k key ≡ b → cond b None (at key_cmp mid k) ≡ cond b (left_by (n ∷ []) (at key_cmp old k)) (at key_cmp old k)) [
  | true ↦ λ t. sym (ap (λ q. left_by (n ∷ []) (at key_cmp old q)) (key_is key_order k key t) ∙ last)
  | false ↦ λ t. others k t
] refl

pub one_let_go : (old new : Originals) (key : Key) (n : ℕ) → ((k : Key) → eq_by_cmp key_cmp k key ≡ false → at key_cmp new k ≡ at key_cmp old k) → at key_cmp new key ≡ left_by (n ∷ []) (at key_cmp old key) →
    (k : Key) → at key_cmp new k ≡ cond (eq_by_cmp key_cmp k key) (left_by (n ∷ []) (at key_cmp old k)) (at key_cmp old k)
one_let_go old new key n others here k = elim (eq_by_cmp key_cmp k key) as (λ b. eq_by_cmp key_cmp k key ≡ b → at key_cmp new k ≡ cond b (left_by (n ∷ []) (at key_cmp old k)) (at key_cmp old k)) [
  | true ↦ λ t. ap (at key_cmp new) (key_is key_order k key t) ∙ here ∙ ap (λ q. left_by (n ∷ []) (at key_cmp old q)) (sym (key_is key_order k key t))
  | false ↦ λ t. others k t
] refl

-- ---- what is kept whole

pub whole_same : (old new : Originals) (lists lists' : Lists) → IsWhole old lists → IsSorted key_cmp new → ((k : Key) → at key_cmp new k ≡ at key_cmp old k) → ((n : ℕ) (k : Key) → is_listed lists n k ≡ true → is_listed lists' n k ≡ true) → IsWhole new lists'
whole_same old new lists lists' w sorted same more = record {
  by_key = sorted;
  held = λ k. subst (λ x. IfSome x (λ (o : Original). o.holders ≢ [])) (sym (same k)) (w.held k);
  listed = λ k n h. more n k (w.listed k n (ap (λ x. is_among (holders_in x) n) (sym (same k)) ∙ h));
}

pub whole_joined : (old new : Originals) (lists lists' : Lists) (m : ℕ) (key : Key) (doc : Option Entries) → IsWhole old lists → IsSorted key_cmp new →
    ((k : Key) → at key_cmp new k ≡ cond (eq_by_cmp key_cmp k key) (Some (joined m doc (at key_cmp old k))) (at key_cmp old k)) →
    ((n : ℕ) (k : Key) → is_listed lists n k ≡ true → is_listed lists' n k ≡ true) → is_listed lists' m key ≡ true → IsWhole new lists'
whole_joined old new lists lists' m key doc w sorted made more here = record {
  by_key = sorted;
  held = λ k. subst (λ x. IfSome x (λ (o : Original). o.holders ≢ [])) (sym (made k)) (elim (eq_by_cmp key_cmp k key) as (λ b. IfSome (cond b (Some (joined m doc (at key_cmp old k))) (at key_cmp old k)) (λ (o : Original). o.holders ≢ [])) [
    | true ↦ joined_held m doc (at key_cmp old k)
    | false ↦ w.held k
  ]);
  listed = λ k n h. elim (eq_by_cmp key_cmp k key) as (λ b. eq_by_cmp key_cmp k key ≡ b → is_among (holders_in (cond b (Some (joined m doc (at key_cmp old k))) (at key_cmp old k))) n ≡ true → is_listed lists' n k ≡ true) [
    | true ↦ λ t g. elim (eq_by_cmp nat_cmp n m) as (λ b. eq_by_cmp nat_cmp n m ≡ b → is_listed lists' n k ≡ true) [
      | true ↦ λ s. ap₂ (λ a q. is_listed lists' a q) (key_is number_order n m s) (key_is key_order k key t) ∙ here
      | false ↦ λ s. more n k (w.listed k n (among_with (holders_in (at key_cmp old k)) m n (ap (λ hs. is_among hs n) (sym (joined_holders m doc (at key_cmp old k))) ∙ g) s))
    ] refl
    | false ↦ λ t g. more n k (w.listed k n g)
  ] refl (ap (λ x. is_among (holders_in x) n) (sym (made k)) ∙ h);
}

pub whole_left : (old new : Originals) (lists lists' : Lists) (m : ℕ) → IsWhole old lists → IsSorted key_cmp new → ((k : Key) → at key_cmp new k ≡ left_by (m ∷ []) (at key_cmp old k)) →
    ((n : ℕ) (k : Key) → eq_by_cmp nat_cmp m n ≡ false → is_listed lists' n k ≡ is_listed lists n k) → IsWhole new lists'
whole_left old new lists lists' m w sorted made others = record {
  by_key = sorted;
  held = λ k. subst (λ x. IfSome x (λ (o : Original). o.holders ≢ [])) (sym (made k)) (left_held (m ∷ []) (at key_cmp old k));
  listed = λ k n h.
      let left = among_without (m ∷ []) (holders_in (at key_cmp old k)) n (ap (λ hs. is_among hs n) (sym (left_holders (m ∷ []) (at key_cmp old k))) ∙ (ap (λ x. is_among (holders_in x) n) (sym (made k)) ∙ h)) in
      others n k (other m n left.1) ∙ w.listed k n left.0;
}
  where
    other : (m n : ℕ) → is_among (m ∷ []) n ≡ false → eq_by_cmp nat_cmp m n ≡ false
    other m n e = (eq_by_cmp_equiv nat_cmp_total).symm m n ∙ no (eq_by_cmp nat_cmp n m) e
      where
        no : (b : Bool) → (b || false) ≡ false → b ≡ false
        no true e = cc e
        no false e = refl

pub whole_served : (old new : Originals) (lists : Lists) (key : Key) (step : Step (List ℕ) Val) → IsWhole old lists → IsSorted key_cmp new →
    ((k : Key) → at key_cmp new k ≡ cond (eq_by_cmp key_cmp k key) (served step (at key_cmp old k)) (at key_cmp old k)) → IsWhole new lists
whole_served old new lists key step w sorted made = record {
  by_key = sorted;
  held = λ k. subst (λ x. IfSome x (λ (o : Original). o.holders ≢ [])) (sym (made k)) (elim (eq_by_cmp key_cmp k key) as (λ b. IfSome (cond b (served step (at key_cmp old k)) (at key_cmp old k)) (λ (o : Original). o.holders ≢ [])) [
    | true ↦ by (at key_cmp old k) (w.held k)
    | false ↦ w.held k
  ]);
  listed = λ k n h. w.listed k n (sym (elim (eq_by_cmp key_cmp k key) as (λ b. is_among (holders_in (cond b (served step (at key_cmp old k)) (at key_cmp old k))) n ≡ is_among (holders_in (at key_cmp old k)) n) [
    | true ↦ ap (λ hs. is_among hs n) (same (at key_cmp old k))
    | false ↦ refl
  ]) ∙ (ap (λ x. is_among (holders_in x) n) (sym (made k)) ∙ h));
}
  where
    by : (x : Option Original) → IfSome x (λ (o : Original). o.holders ≢ []) → IfSome (served step x) (λ (o : Original). o.holders ≢ [])
    by None h = tt
    by (Some o) h = h

    same : (x : Option Original) → holders_in (served step x) ≡ holders_in x
    same None = refl
    same (Some o) = refl

-- who isn't listed holds nothing
pub all_forgotten : (old new : Originals) (lists : Lists) (n : ℕ) (keys : Key → Bool) → ((k : Key) → IfSome (at key_cmp old k) (λ (o : Original). o.holders ≢ [])) → ((k : Key) → is_holder old n k ≡ true → is_listed lists n k ≡ true) →
    ((k : Key) → is_listed lists n k ≡ keys k) → ((k : Key) → at key_cmp new k ≡ cond (keys k) (left_by (n ∷ []) (at key_cmp old k)) (at key_cmp old k)) → (k : Key) → at key_cmp new k ≡ left_by (n ∷ []) (at key_cmp old k)
all_forgotten old new lists n keys held listed are made k = made k ∙ elim (keys k) as (λ b. keys k ≡ b → cond b (left_by (n ∷ []) (at key_cmp old k)) (at key_cmp old k) ≡ left_by (n ∷ []) (at key_cmp old k)) [
  | true ↦ λ t. refl
  | false ↦ λ t. sym (left_absent n (at key_cmp old k) (held k) (elim (is_holder old n k) as (λ b. is_holder old n k ≡ b → b ≡ false) [ true ↦ λ h. sym (listed k h) ∙ are k ∙ t | false ↦ λ h. refl ] refl))
] refl

-- ---- who holds nothing

pub empty_is : (b : Bool) (hs : List ℕ) → IsTrue b ↔ (length hs ≡ 0) → b ≡ not (is_some (unless_none hs))
empty_is true [] e = refl
empty_is true (h ∷ hs) e = not_nil (e.0 refl)
  where
    not_nil : length (h ∷ hs) ≡ 0 → true ≡ false
    not_nil e = absurd (omega arith)
empty_is false [] e = e.1 refl
empty_is false (h ∷ hs) e = refl

pub free_unlisted : (os : Originals) (lists : Lists) (n : ℕ) → IsWhole os lists → (k : Key) → is_listed lists n k ≡ false → is_holder os n k ≡ false
free_unlisted os lists n w k away = elim (is_holder os n k) as (λ b. is_holder os n k ≡ b → b ≡ false) [ true ↦ λ h. sym (w.listed k n h) ∙ away | false ↦ λ h. refl ] refl

none_of : (test : Key → Bool) (ks : List Key) (k : Key) → list_all (λ q. not (test q)) ks ≡ true → list_any (eq_by_cmp key_cmp k) ks ≡ true → test k ≡ false
none_of test [] k all there = cc there
none_of test (q ∷ ks) k all there = elim (eq_by_cmp key_cmp k q) as (λ b. eq_by_cmp key_cmp k q ≡ b → (b || list_any (eq_by_cmp key_cmp k) ks) ≡ true → test k ≡ false) [
  | true ↦ λ t e. ap test (key_is key_order k q t) ∙ first (test q) (list_all (λ x. not (test x)) ks) all
  | false ↦ λ t e. none_of test ks k (second (test q) (list_all (λ x. not (test x)) ks) all) e
] refl there
  where
    first : (b c : Bool) → (not b && c) ≡ true → b ≡ false
    first true c e = cc e
    first false c e = refl

    second : (b c : Bool) → (not b && c) ≡ true → c ≡ true
    second true c e = cc e
    second false c e = e

all_free : (test : Key → Bool) (ks : List Key) → ((k : Key) → test k ≡ false) → list_all (λ q. not (test q)) ks ≡ true
all_free test [] free = refl
all_free test (k ∷ ks) free = ap₂ (λ a b. not a && b) (free k) (all_free test ks free)

-- none of its listed keys is held by it
pub free_all : (os : Originals) (lists : Lists) (n : ℕ) (b : Bool) (keys : List Key) → IsWhole os lists → ((k : Key) → is_listed lists n k ≡ is_key_among keys k) → b ≡ list_all (λ k. not (is_holder os n k)) keys → IsTrue b ↔ ((k : Key) → is_holder os n k ≡ false)
free_all os lists n b keys w are is = (
  (λ e k. elim (is_key_among keys k) as (λ c. is_key_among keys k ≡ c → is_holder os n k ≡ false) [
    | true ↦ λ t. none_of (is_holder os n) keys k (sym is ∙ e) t
    | false ↦ λ t. free_unlisted os lists n w k (are k ∙ t)
  ] refl),
  (λ free. is ∙ all_free (is_holder os n) keys free),
)

-- ---- a walk over saves

first_counts : (n : ℕ) (b : Bool) (doc : Option Entries) (rest : Option (Option Entries)) (old : Option Original) →
    saved_by n rest (saved_by n (cond b (Some doc) None) old) ≡ saved_by n (cond b (Some doc) rest) old
first_counts n true doc None old = refl
first_counts n true doc (Some later) old = ap Some (joined_again n doc later old)
first_counts n false doc rest old = refl

-- one more save
pub save_step : (n : ℕ) (items : List Save) (i : ℕ) (item : Save) (old new : Originals) → item ≡ get_or items i item → i < length items →
    ((k : Key) → at key_cmp new k ≡ saved_by n (at key_cmp (saves_of (item ∷ [])) k) (at key_cmp old k)) →
    (k : Key) → saved_by n (at key_cmp (saves_of (drop (i + 1) items)) k) (at key_cmp new k) ≡ saved_by n (at key_cmp (saves_of (drop i items)) k) (at key_cmp old k)
save_step n items i item old new is within made k =
    ap (saved_by n (at key_cmp (saves_of (drop (i + 1) items)) k)) (made k)
    ∙ first_counts n (eq_by_cmp key_cmp k item.key) item.doc (at key_cmp (saves_of (drop (i + 1) items)) k) (at key_cmp old k)
    ∙ ap (λ ss. saved_by n (at key_cmp (saves_of ss) k) (at key_cmp old k)) (sym (next_of items i item is within))

-- one more simulation lets all go
pub forget_step : (items : List ℕ) (i item : ℕ) (old new : Originals) → item ≡ get_or items i item → i < length items → ((k : Key) → at key_cmp new k ≡ left_by (item ∷ []) (at key_cmp old k)) →
    (k : Key) → left_by (drop (i + 1) items) (at key_cmp new k) ≡ left_by (drop i items) (at key_cmp old k)
forget_step items i item old new is within made k =
    ap (left_by (drop (i + 1) items)) (made k) ∙ left_then item (drop (i + 1) items) (at key_cmp old k) ∙ ap (λ ns. left_by ns (at key_cmp old k)) (sym (next_of items i item is within))

pub forget_next : (items : List ℕ) (i : ℕ) (old new : Originals) → i < length items → ((k : Key) → at key_cmp new k ≡ left_by (get_or items i 0 ∷ []) (at key_cmp old k)) →
    (k : Key) → left_by (drop (i + 1) items) (at key_cmp new k) ≡ left_by (drop i items) (at key_cmp old k)
forget_next items i old new within made k = forget_step items i (get_or items i 0) old new (sym (get_or_default_zero items i (get_or items i 0) within)) within made k

pub forget_end : (items : List ℕ) (i : ℕ) (old new : Originals) → length items ≤ i → ((k : Key) → IfSome (at key_cmp new k) (λ (o : Original). o.holders ≢ [])) → ((k : Key) → left_by (drop i items) (at key_cmp new k) ≡ left_by items (at key_cmp old k)) →
    (k : Key) → at key_cmp new k ≡ left_by items (at key_cmp old k)
forget_end items i old new over held walk k = sym (left_none (at key_cmp new k) (held k)) ∙ ap (λ ns. left_by ns (at key_cmp new k)) (sym (drop_all i items over)) ∙ walk k

-- ---- a walk over held keys

-- nothing is left to be let go
left_again : (n : ℕ) (old : Option Original) → left_by (n ∷ []) (left_by (n ∷ []) old) ≡ left_by (n ∷ []) old
left_again n old = left_absent n (left_by (n ∷ []) old) (left_held (n ∷ []) old) (ap (λ hs. is_among hs n) (left_holders (n ∷ []) old) ∙ away (is_among (without_numbers (n ∷ []) (holders_in old)) n) (λ h. among_without (n ∷ []) (holders_in old) n h))
  where
    away : (b : Bool) → (b ≡ true → (is_among (holders_in old) n ≡ true) × (is_among (n ∷ []) n ≡ false)) → b ≡ false
    away true h = absurd (true≢false (sym (ap (λ b. b || false) (eq_by_cmp-self number_order n)) ∙ (h refl).1))
    away false h = refl

-- one more key of those that a simulation lets go
pub let_go_step : (n : ℕ) (keys : List Key) (i : ℕ) (key : Key) (old new : Originals) → key ≡ get_or keys i key → i < length keys →
    ((k : Key) → at key_cmp new k ≡ cond (eq_by_cmp key_cmp k key) (left_by (n ∷ []) (at key_cmp old k)) (at key_cmp old k)) →
    (k : Key) → cond (is_key_among (drop (i + 1) keys) k) (left_by (n ∷ []) (at key_cmp new k)) (at key_cmp new k) ≡ cond (is_key_among (drop i keys) k) (left_by (n ∷ []) (at key_cmp old k)) (at key_cmp old k)
let_go_step n keys i key old new is within made k =
    let before = at key_cmp old k in
    let left = left_by (n ∷ []) before in
    ap (λ w. cond (is_key_among (drop (i + 1) keys) k) (left_by (n ∷ []) w) w) (made k)
    ∙ elim (eq_by_cmp key_cmp k key) as (λ b. cond (is_key_among (drop (i + 1) keys) k) (left_by (n ∷ []) (cond b left before)) (cond b left before) ≡ cond (b || is_key_among (drop (i + 1) keys) k) left before) [
      | true ↦ elim (is_key_among (drop (i + 1) keys) k) as (λ c. cond c (left_by (n ∷ []) left) left ≡ left) [ true ↦ left_again n before | false ↦ refl ]
      | false ↦ refl
    ]
    ∙ ap (λ ks. cond (is_key_among ks k) left before) (sym (next_of keys i key is within))

-- ---- what is due

due_step : (f : Key → Option (Option Entries)) (k : Key) (rest : List Key) → some_save k (f k) ++ collect f rest ≡ collect f (k ∷ rest)
due_step f k rest = elim (f k) as (λ w. some_save k w ++ collect f rest ≡ keyed k w (collect f rest)) [ None ↦ refl | Some doc ↦ refl ]

-- somebody else holds it, where the key isn't listed
unlisted : (lists : Lists) (ns : List ℕ) (k : Key) (hs : List ℕ) → is_listed_by lists ns k ≡ false → ((n : ℕ) → is_among hs n ≡ true → is_listed lists n k ≡ true) → hs ≢ [] → list_all (is_among ns) hs ≡ false
unlisted lists ns k [] away listed some = absurd (some refl)
unlisted lists ns k (h ∷ hs) away listed some = ap (λ b. b && list_all (is_among ns) hs) (by ns away)
  where
    here : is_listed lists h k ≡ true
    here = listed h (ap (λ b. b || is_among hs h) (eq_by_cmp-self number_order h))

    later : (b : Bool) {c : Bool} → (b || c) ≡ false → c ≡ false
    later true e = cc e
    later false e = e

    by : (ms : List ℕ) → is_listed_by lists ms k ≡ false → is_among ms h ≡ false
    by [] e = refl
    by (m ∷ ms) e = elim (eq_by_cmp nat_cmp h m) as (λ b. eq_by_cmp nat_cmp h m ≡ b → (b || is_among ms h) ≡ false) [
      | true ↦ λ t. absurd (true≢false (sym (ap (λ b. b || is_listed_by lists ms k) (ap (λ x. is_listed lists x k) (sym (key_is number_order h m t)) ∙ here)) ∙ e))
      | false ↦ λ t. by ms (later (is_listed lists m k) e)
    ] refl

same_test : (test ns_test : ℕ → Bool) → ((n : ℕ) → test n ≡ ns_test n) → (hs : List ℕ) → list_all test hs ≡ list_all ns_test hs
same_test test ns_test same [] = refl
same_test test ns_test same (h ∷ hs) = ap₂ (λ a b. a && b) (same h) (same_test test ns_test same hs)

same_due : (test : ℕ → Bool) (ns : List ℕ) → ((n : ℕ) → test n ≡ is_among ns n) → (old : Option Original) → due_at test old ≡ option_and_then (λ original. due_at (is_among ns) (Some original)) old
same_due test ns same None = refl
same_due test ns same (Some o) = ap (λ b. cond b (Some o.doc) None) (same_test test (is_among ns) same o.holders)

not_due : (lists : Lists) (ns : List ℕ) (k : Key) (old : Option Original) → is_listed_by lists ns k ≡ false → ((n : ℕ) → is_among (holders_in old) n ≡ true → is_listed lists n k ≡ true) → IfSome old (λ (o : Original). o.holders ≢ []) →
    option_and_then (λ original. due_at (is_among ns) (Some original)) old ≡ None
not_due lists ns k None away listed held = refl
not_due lists ns k (Some o) away listed held = ap (λ b. cond b (Some o.doc) None) (unlisted lists ns k o.holders away listed held)

-- a walk over the listed keys
pub due_next : (f : Key → Option (Option Entries)) (keys : List Key) (i : ℕ) (key : Key) → key ≡ get_or keys i key → i < length keys → some_save key (f key) ++ collect f (drop (i + 1) keys) ≡ collect f (drop i keys)
due_next f keys i key is within = due_step f key (drop (i + 1) keys) ∙ ap (collect f) (sym (next_of keys i key is within))

-- those of the listed keys that are due are all that are due
pub all_due : (lists : Lists) (ns : List ℕ) (numbers : BTreeSet ℕ) (keys : List Key) (originals : Originals) → IsStrictlySortedBy key_cmp keys → IsSorted key_cmp originals →
    ((k : Key) → IfSome (at key_cmp originals k) (λ (o : Original). o.holders ≢ [])) → ((k : Key) (n : ℕ) → is_holder originals n k ≡ true → is_listed lists n k ≡ true) →
    ((n : ℕ) → contains nat_cmp numbers n ≡ is_among ns n) → ((k : Key) → is_key_among keys k ≡ is_listed_by lists numbers.keys k) →
    collect (λ k. due_at (λ n. contains nat_cmp numbers n) (at key_cmp originals k)) keys ≡ due ns originals
all_due lists ns numbers keys originals rising sorted held listed same are =
    let f : Key → Option (Option Entries) = λ k. due_at (λ n. contains nat_cmp numbers n) (at key_cmp originals k) in
    let g : Key → Original → Option (Option Entries) = λ k original. due_at (is_among ns) (Some original) in
    same_maps key_order (collect f keys) (due ns originals) (sorted-collect key_order f keys rising) (sorted-filter_map_entries key_cmp g originals sorted) (λ q.
    at-collect key_order f keys q
    ∙ ap (λ b. cond b (f q) None) (are q)
    ∙ elim (is_listed_by lists numbers.keys q) as (λ b. is_listed_by lists numbers.keys q ≡ b → cond b (f q) None ≡ option_and_then (g q) (at key_cmp originals q)) [
      | true ↦ λ t. same_due (λ n. contains nat_cmp numbers n) ns same (at key_cmp originals q)
      | false ↦ λ t.
          sym (not_due lists numbers.keys q (at key_cmp originals q) t (λ n h. listed q n h) (held q))
          ∙ sym (same_due (λ n. contains nat_cmp numbers n) numbers.keys (λ n. refl) (at key_cmp originals q))
          ∙ same_due (λ n. contains nat_cmp numbers n) ns same (at key_cmp originals q)
    ] refl
    ∙ sym (at-filter_map_entries key_order g originals q sorted))
