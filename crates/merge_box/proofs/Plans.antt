-- What a plan makes of the documents, and what is kept once it is carried out.
use Rattle.std.proofs.Common.{◌≡◌, ℕ, append_assoc, zero, suc, ◌+◌, ◌<◌, arith, add-one, length, get_or, take, Bool, true, false, cond, ◌||◌, ◌++◌, List, [], ◌∷◌, map, Option, Some, None, is_some, IsSome, unwrap_or, refl, sym, ap, ap₂, subst, subst₂, ⊎_elim, ◌∙◌, true≢false}
use Rattle.std.specs.Option.{option_or}
use Rattle.std.specs.declared.cmp.Ordering.TheVariants.{Greater}
use Rattle.std.specs.Map.{keys_of}
use Rattle.std.specs.List.{list_any}
use Rattle.std.specs.BTreeSet.{BTreeSet}
use Rattle.std.proofs.lemmas.List.{map-append}
use Rattle.ejson_value.specs.declared.change.Publish.{Publish}
use Rattle.map_model.specs.Maps.{keyed}
use Rattle.map_model.specs.Orders.{IsAbove}
use Rattle.map_model.specs.OrderLaws.{filter_map_entries-append}
use Rattle.merge_box.specs.Index.{lists_of, is_listed}
use Rattle.std.specs.Ordering.{eq_by_cmp, is_eq}
use Rattle.std.specs.List.Sorted.{IsStrictlySortedBy}
use Rattle.map_model.specs.Maps.{at, IsSorted}
use Rattle.map_model.specs.MapLaws.{key_is}
use Rattle.merge_model.specs.Kept.{has, kept_at, publishers_at, nothing_kept}
use Rattle.merge_model.specs.Publishing.{last_news}
use Rattle.value_model.specs.Val.{Entries}
use Rattle.ejson_value.specs.declared.key.Key.{Key}
use Rattle.ejson_value.specs.Key.{key_cmp, key_order}
use Rattle.kept_document.specs.declared.held.Change.{Change}
use Rattle.kept_document.specs.Held.{KeptDoc, IsHeld, SameDoc, IsDocGrown}
use Rattle.kept_document.specs.Changes.{held_in, with_change, IsChange, HasPlaces}
use Rattle.ejson_value.specs.Changes.{news_of}
use Rattle.merge_box.specs.State.{KeptDocs, Told}
use Rattle.merge_box.specs.Inside.{Changes, with_change_if, after_at, step_of, told_of, IsGrown, IsReady, IsPlannedAt, IsPublished}
use Rattle.kept_document.proofs.Places.{same_itself, places_on, change_grown}
use Rattle.kept_document.proofs.Puts.{left_from, left_cases}
use Rattle.merge_box.proofs.Listing.{either_way}

-- one more of the news
news_at : (news : List Publish) (i : ℕ) (p : Publish) → p ≡ get_or news i p → i < length news → news_of (take (suc i) news) ≡ news_of (take i news) ++ (p.key, p.new) ∷ []
news_at [] i p is h = absurd (omega arith)
news_at (q ∷ news) zero p is h = ap (λ x. (x.key, x.new) ∷ []) (sym is)
news_at (q ∷ news) (suc i) p is h = let h' : i < length news = omega arith in ap (λ rest. (q.key, q.new) ∷ rest) (news_at news i p is h')

pub news_step : (news : List Publish) (i : ℕ) (p : Publish) → p ≡ get_or news i p → i < length news → news_of (take (i + 1) news) ≡ news_of (take i news) ++ (p.key, p.new) ∷ []
news_step news i p is h = rw add-one (news_at news i p is h)

pub news_push : (news : List Publish) (p : Publish) → news_of (news ++ p ∷ []) ≡ news_of news ++ (p.key, p.new) ∷ []
news_push news p = map-append (λ (x : Publish). (x.key, x.new)) news (p ∷ [])

abbrev pub removed : List Key → List (Key × Option Entries)
removed keys = map (λ k. (k, None)) keys

pub gone_push : (keys : List Key) (key : Key) → removed keys ++ (key, None) ∷ [] ≡ removed (keys ++ key ∷ [])
gone_push keys key = let f : Key → Key × Option Entries = λ k. (k, None) in sym (map-append f keys (key ∷ []))

removed_keys : (keys : List Key) → keys_of (removed keys) ≡ keys
removed_keys [] = refl
removed_keys (k ∷ keys) = ap (λ ks. k ∷ ks) (removed_keys keys)

pub removed_sorted : (keys : List Key) → IsStrictlySortedBy key_cmp keys → IsSorted key_cmp (removed keys)
removed_sorted keys s = subst (IsStrictlySortedBy key_cmp) (sym (removed_keys keys)) s

later : {D : Type 0} (b : Bool) (d : D) (w c : Option D) → option_or (cond b (Some d) w) c ≡ cond b (Some d) (option_or w c)
later true d w c = refl
later false d w c = refl

pub last_news-push : (news : List (Key × Option Entries)) (key : Key) (d : Option Entries) (k : Key) → last_news key_cmp (news ++ (key, d) ∷ []) k ≡ cond (eq_by_cmp key_cmp k key) (Some d) (last_news key_cmp news k)
last_news-push [] key d k = refl
last_news-push (x ∷ news) key d k =
    ap (λ w. option_or w (cond (eq_by_cmp key_cmp k x.0) (Some x.1) None)) (last_news-push news key d k)
    ∙ later (eq_by_cmp key_cmp k key) d (last_news key_cmp news k) (cond (eq_by_cmp key_cmp k x.0) (Some x.1) None)

-- the removals of keys
abbrev pub gone : Option (Option Entries)
gone = Some None

gone_or : (b c : Bool) → option_or (cond b gone None) (cond c gone None) ≡ cond (c || b) gone None
gone_or true true = refl
gone_or true false = refl
gone_or false true = refl
gone_or false false = refl

pub last_removed : (keys : List Key) (k : Key) → last_news key_cmp (removed keys) k ≡ cond (list_any (eq_by_cmp key_cmp k) keys) gone None
last_removed [] k = refl
last_removed (q ∷ keys) k =
    ap (λ w. option_or w (cond (eq_by_cmp key_cmp k q) gone None)) (last_removed keys k)
    ∙ gone_or (list_any (eq_by_cmp key_cmp k) keys) (eq_by_cmp key_cmp k q)

pub unlisted_news : (index : List (ℕ × BTreeSet Key)) (sub : ℕ) (k : Key) → is_listed (lists_of index) sub k ≡ false → cond (is_listed (lists_of index) sub k) gone None ≡ None
unlisted_news index sub k e = ap (λ b. cond b gone None) e

planned_grown : (sub : ℕ) (w : Option (Option Entries)) (a b : KeptDoc) (x : Option Change) → IsDocGrown a b → IsPlannedAt sub w a x → IsPlannedAt sub w b x
planned_grown sub w a b None grown p = p
planned_grown sub w a b (Some change) grown p = (p.0, p.1, change_grown sub p.0 a b change grown p.2, places_on a b change grown p.3)

-- one more is planned
pub planned_step : (sub : ℕ) (kept grown : KeptDocs) (plan new : Changes) (planned : Change) (news : List Publish) (i : ℕ) (p : Publish) → news_of (take (i + 1) news) ≡ news_of (take i news) ++ (p.key, p.new) ∷ []
    → IsGrown kept grown
    → ((k : Key) → IsPlannedAt sub (last_news key_cmp (news_of (take i news)) k) (kept_at key_cmp kept k) (at key_cmp plan k))
    → ((k : Key) → at key_cmp new k ≡ cond (eq_by_cmp key_cmp k p.key) (Some planned) (at key_cmp plan k))
    → IsChange sub p.new (kept_at key_cmp grown p.key) planned → HasPlaces (kept_at key_cmp grown p.key) planned
    → (k : Key) → IsPlannedAt sub (last_news key_cmp (news_of (take (i + 1) news)) k) (kept_at key_cmp grown k) (at key_cmp new k)
planned_step sub kept grown plan new planned news i p more grows before change is places k =
    subst (λ x. IsPlannedAt sub (last_news key_cmp (news_of (take (i + 1) news)) k) (kept_at key_cmp grown k) x) (sym (change k))
    (subst (λ w. IsPlannedAt sub w (kept_at key_cmp grown k) (cond (eq_by_cmp key_cmp k p.key) (Some planned) (at key_cmp plan k))) (sym (ap (λ es. last_news key_cmp es k) more ∙ last_news-push (news_of (take i news)) p.key p.new k))
    (elim (eq_by_cmp key_cmp k p.key) as (λ b. eq_by_cmp key_cmp k p.key ≡ b → IsPlannedAt sub (cond b (Some p.new) (last_news key_cmp (news_of (take i news)) k)) (kept_at key_cmp grown k) (cond b (Some planned) (at key_cmp plan k))) [
      | true ↦ λ t. subst (λ q. IsPlannedAt sub (Some p.new) (kept_at key_cmp grown q) (Some planned)) (sym (key_is key_order k p.key t)) (p.new, refl, is, places)
      | false ↦ λ t. planned_grown sub (last_news key_cmp (news_of (take i news)) k) (kept_at key_cmp kept k) (kept_at key_cmp grown k) (at key_cmp plan k) (grows.docs k) (before k)
    ] refl))

pub room_step : (kept grown : KeptDocs) (plan new : Changes) (planned : Change) (key : Key) → ((k : Key) → IsSome (at key_cmp plan k) → IsSome (at key_cmp kept k)) → ((k : Key) → IsSome (at key_cmp kept k) → IsSome (at key_cmp grown k)) → IsSome (at key_cmp grown key)
    → ((k : Key) → at key_cmp new k ≡ cond (eq_by_cmp key_cmp k key) (Some planned) (at key_cmp plan k)) → (k : Key) → IsSome (at key_cmp new k) → IsSome (at key_cmp grown k)
room_step kept grown plan new planned key before grows here change k some =
    elim (eq_by_cmp key_cmp k key) as (λ b. eq_by_cmp key_cmp k key ≡ b → is_some (cond b (Some planned) (at key_cmp plan k)) ≡ true → is_some (at key_cmp grown k) ≡ true) [
      | true ↦ λ t _. ap (λ q. is_some (at key_cmp grown q)) (key_is key_order k key t) ∙ here
      | false ↦ λ t h. grows k (before k h)
    ] refl (ap is_some (sym (change k)) ∙ some)

pub listed_step : (sub : ℕ) (index grown : List (ℕ × BTreeSet Key)) (news : List Publish) (i : ℕ) (p : Publish) → news_of (take (i + 1) news) ≡ news_of (take i news) ++ (p.key, p.new) ∷ []
    → ((k : Key) → IsPublished (last_news key_cmp (news_of (take i news)) k) → is_listed (lists_of index) sub k ≡ true)
    → ((s : ℕ) (k : Key) → is_listed (lists_of index) s k ≡ true → is_listed (lists_of grown) s k ≡ true)
    → (IsSome p.new → is_listed (lists_of grown) sub p.key ≡ true)
    → (k : Key) → IsPublished (last_news key_cmp (news_of (take (i + 1) news)) k) → is_listed (lists_of grown) sub k ≡ true
listed_step sub index grown news i p more before stays here k h =
    elim (eq_by_cmp key_cmp k p.key) as (λ b. eq_by_cmp key_cmp k p.key ≡ b → IsPublished (cond b (Some p.new) (last_news key_cmp (news_of (take i news)) k)) → is_listed (lists_of grown) sub k ≡ true) [
      | true ↦ λ t some. ap (is_listed (lists_of grown) sub) (key_is key_order k p.key t) ∙ here some
      | false ↦ λ t some. stays sub k (before k some)
    ] refl (subst IsPublished (ap (λ es. last_news key_cmp es k) more ∙ last_news-push (news_of (take i news)) p.key p.new k) h)

-- the keys of a plan are those of the news
pub keys_step : (plan new : Changes) (planned : Change) (news : List Publish) (i : ℕ) (p : Publish) → news_of (take (i + 1) news) ≡ news_of (take i news) ++ (p.key, p.new) ∷ [] → new ≡ plan ++ (p.key, planned) ∷ []
    → keys_of plan ≡ keys_of (news_of (take i news)) → keys_of new ≡ keys_of (news_of (take (i + 1) news))
keys_step plan new planned news i p more push so_far =
    ap keys_of push ∙ map-append (λ (e : Key × Change). e.0) plan ((p.key, planned) ∷ []) ∙ ap (λ ks. ks ++ p.key ∷ []) so_far
    ∙ sym (ap keys_of more ∙ map-append (λ (e : Key × Option Entries). e.0) (news_of (take i news)) ((p.key, p.new) ∷ []))

pub other_key : (key k : Key) → key_cmp key k ≡ Greater → eq_by_cmp key_cmp k key ≡ false
other_key key k above = sym (either_way key k) ∙ ap is_eq above

-- what is told of documents below a key, where no other document changes
told_others : (kept new : KeptDocs) (plan : Changes) (key : Key) → ((k : Key) → eq_by_cmp key_cmp k key ≡ false → at key_cmp new k ≡ at key_cmp kept k) → IsAbove key_cmp key (keys_of plan) → told_of new plan ≡ told_of kept plan
told_others kept new [] key others above = refl
told_others kept new (e ∷ plan) key others above =
    ap₂ (λ w rest. keyed e.0 (step_of (unwrap_or w nothing_kept) e.1) rest) (others e.0 (other_key key e.0 above.0)) (told_others kept new plan key others above.1)

pub told_step : (kept new : KeptDocs) (plan after : Changes) (key : Key) (planned : Change) (start before now : Told) → after ≡ plan ++ (key, planned) ∷ []
    → ((k : Key) → eq_by_cmp key_cmp k key ≡ false → at key_cmp new k ≡ at key_cmp kept k) → IsAbove key_cmp key (keys_of plan)
    → before ≡ start ++ told_of kept plan → now ≡ before ++ keyed key (step_of (kept_at key_cmp new key) planned) [] → now ≡ start ++ told_of new after
told_step kept new plan after key planned start before now push others above so_far added =
    let last = keyed key (step_of (kept_at key_cmp new key) planned) [] in
    added ∙ ap (λ ms. ms ++ last) (so_far ∙ ap (λ ms. start ++ ms) (sym (told_others kept new plan key others above)))
    ∙ append_assoc start (told_of new plan) last
    ∙ ap (λ ms. start ++ ms) (sym (ap (told_of new) push ∙ filter_map_entries-append (λ k change. step_of (kept_at key_cmp new k) change) plan (key, planned)))

-- Carrying a plan out: `rest` is the plan without its first entry, the change of the document `key`, which makes `new` of `old`.
module _ (plan rest : Changes) (old new : KeptDocs) (key : Key) (change : Change) (value : at key_cmp plan key ≡ Some change) (updates : (k : Key) → at key_cmp rest k ≡ cond (is_eq (key_cmp key k)) None (at key_cmp plan k))
    (same : SameDoc (with_change (kept_at key_cmp old key) change) (kept_at key_cmp new key)) (others : (k : Key) → eq_by_cmp key_cmp k key ≡ false → at key_cmp new k ≡ at key_cmp old k) where
  kept_others : (k : Key) → eq_by_cmp key_cmp k key ≡ false → kept_at key_cmp new k ≡ kept_at key_cmp old k
  kept_others k other = ap (λ x. unwrap_or x nothing_kept) (others k other)

  pub same_step : (k : Key) → SameDoc (after_at plan old k) (after_at rest new k)
  same_step k = ⊎_elim
      (λ here.
      let at_key = key_is key_order k key here.0 in
      subst (λ q. SameDoc (after_at plan old q) (after_at rest new q)) (sym at_key)
      (subst₂ (λ x y. SameDoc (with_change_if x (kept_at key_cmp old key)) (with_change_if y (kept_at key_cmp new key))) (sym value) (sym (ap (at key_cmp rest) (sym at_key) ∙ here.1)) same))
      (λ there. subst₂ (λ x e. SameDoc (after_at plan old k) (with_change_if x e)) (sym there.1) (sym (kept_others k there.0)) (same_itself (after_at plan old k)))
      (left_cases key_order plan rest key updates k)

  pub held_step : IsHeld (kept_at key_cmp new key) → ((k : Key) → IsHeld (kept_at key_cmp old k)) → (k : Key) → IsHeld (kept_at key_cmp new k)
  held_step here before k = elim (eq_by_cmp key_cmp k key) as (λ b. eq_by_cmp key_cmp k key ≡ b → IsHeld (kept_at key_cmp new k)) [
    | true ↦ λ t. subst (λ q. IsHeld (kept_at key_cmp new q)) (sym (key_is key_order k key t)) here
    | false ↦ λ t. subst IsHeld (sym (kept_others k t)) (before k)
  ] refl

  pub ready_step : ((k : Key) (c : Change) → at key_cmp plan k ≡ Some c → IsReady old k c) → (k : Key) (c : Change) → at key_cmp rest k ≡ Some c → IsReady new k c
  ready_step ready k c is =
      let other = left_from key_order plan rest key updates k c is in
      let was = ready k c other.1 in
      record {
        place = ap is_some (others k other.0) ∙ was.place;
        places = subst (λ e. HasPlaces e c) (sym (kept_others k other.0)) was.places;
        held = subst (λ e. IsHeld (with_change e c)) (sym (kept_others k other.0)) was.held;
      }

  module _ (index left : List (ℕ × BTreeSet Key)) (will_list : (k : Key) (c : Change) (s : ℕ) → at key_cmp plan k ≡ Some c → has s (held_in c).publishers ≡ true → is_listed (lists_of index) s k ≡ true)
      (stays : (k : Key) (s : ℕ) → (eq_by_cmp key_cmp k key ≡ true → has s (held_in change).publishers ≡ true) → is_listed (lists_of index) s k ≡ true → is_listed (lists_of left) s k ≡ true) where
    pub will_list_step : (k : Key) (c : Change) (s : ℕ) → at key_cmp rest k ≡ Some c → has s (held_in c).publishers ≡ true → is_listed (lists_of left) s k ≡ true
    will_list_step k c s is there =
        let other = left_from key_order plan rest key updates k c is in
        stays k s (λ t. absurd (true≢false (sym t ∙ other.0))) (will_list k c s other.1 there)

    pub kept_listed_step : ((k : Key) (s : ℕ) → has s (publishers_at key_cmp old k) ≡ true → is_listed (lists_of index) s k ≡ true) → (k : Key) (s : ℕ) → has s (publishers_at key_cmp new k) ≡ true → is_listed (lists_of left) s k ≡ true
    kept_listed_step before k s there = elim (eq_by_cmp key_cmp k key) as (λ b. eq_by_cmp key_cmp k key ≡ b → is_listed (lists_of left) s k ≡ true) [
      | true ↦ λ t.
          let at_key = key_is key_order k key t in
          let now = sym (ap (has s) same.publishers) ∙ sym (ap (λ q. has s (publishers_at key_cmp new q)) at_key) ∙ there in
          stays k s (λ _. now) (ap (is_listed (lists_of index) s) at_key ∙ will_list key change s value now)
      | false ↦ λ t. stays k s (λ e. absurd (true≢false (sym e ∙ t))) (before k s (sym (ap (λ e. has s e.publishers) (kept_others k t)) ∙ there))
    ] refl
