-- A plan: what it leaves of a box, and that it does what the call says.
use Rattle.std.proofs.Common.{◌≡◌, ℕ, ◌==◌, Bool, true, false, cond, List, [], ◌∷◌, Option, Some, None, is_some, IsSome, IfSome, option_and_then, Result, Ok, Err, IfOk, OnOk, OnErr, refl, sym, ap, ap₂, subst, subst₂, ◌∙◌, true≢false}
use Rattle.std.specs.Ordering.{is_eq}
use Rattle.map_model.specs.Maps.{at, IsSorted, filter_map_entries}
use Rattle.map_model.specs.MapLaws.{at-filter_map_entries, sorted-nil, sorted-filter_map_entries}
use Rattle.map_model.specs.Differences.{IsDiff, between, diff}
use Rattle.map_model.specs.DifferenceLaws.{between_itself, one_diff, diff_is}
use Rattle.value_model.specs.Val.{Entries}
use Rattle.value_model.specs.Order.{text_cmp}
use Rattle.value_model.specs.OrderLaws.{compare_itself}
use Rattle.merge_model.specs.Publishing.{Call, apply, drop_sub, last_news, shown, shown_since}
use Rattle.merge_model.specs.PublishingLaws.{same_sub}
use Rattle.merge_model.specs.Kept.{has, is_empty, claimed, placed, first_value, merged, merged_doc, kept_at, publishers_at, there_after, claims_of, claims_after, IsInOrder}
use Rattle.merge_model.specs.MergeLaws.{one_merge}
use Rattle.merge_model.specs.KeptLaws.{at-merged, merged_is, stands_after}
use Rattle.ejson_value.specs.declared.key.Key.{Key}
use Rattle.ejson_value.specs.Key.{name_order, key_cmp, key_order}
use Rattle.kept_document.specs.declared.held.Change.{Change}
use Rattle.kept_document.specs.Held.{KeptDoc, same_value, IsHeld, SameDoc}
use Rattle.kept_document.specs.Changes.{held_in, with_change}
use Rattle.merge_box.specs.Index.{Lists, is_listed}
use Rattle.merge_box.specs.State.{KeptDocs, Told, BoxState, shared_count, IsBoxAfter, Tells, Answers, IsPlan, IsBox}
use Rattle.merge_box.specs.Inside.{Changes, docs_of, carried_out, with_change_if, after_at, told_of, IsGrown, IsInside, IsPlannedAt, IsPublished}
use Rattle.merge_box.proofs.Counting.{shared_docs}
use Rattle.kept_document.proofs.KeptAfter.{no_claim}
use Rattle.kept_document.proofs.Places.{change_held, places_on}
use Rattle.merge_box.proofs.Places.{docs_same, kept_same, held_docs, sorted-docs_of, merged_docs, kept_at-carried_out, sorted-carried_out, after_same}

-- ---- the box inside
module _ (kept : KeptDocs) (changes : Changes) (lists : Lists) (inside : IsInside kept changes lists) where
  after_held : (k : Key) (x : Option Change) → at key_cmp changes k ≡ x → IsHeld (with_change_if x (kept_at key_cmp kept k))
  after_held k None e = inside.held k
  after_held k (Some change) e = (inside.ready k change e).held

  pub carried_held : (k : Key) → IsHeld (kept_at key_cmp (carried_out changes kept) k)
  carried_held k = subst IsHeld (sym (kept_at-carried_out changes kept k inside.changes_by_key)) (after_held k (at key_cmp changes k) refl)

  pub is_box : IsBox (docs_of kept)
  is_box = record { by_key = sorted-docs_of kept inside.by_key; held = λ k. held_docs kept k inside.by_key (inside.held k) }

  pub will_be_box : IsBox (docs_of (carried_out changes kept))
  will_be_box = record {
    by_key = sorted-docs_of (carried_out changes kept) (sorted-carried_out changes kept inside.by_key);
    held = λ k. held_docs (carried_out changes kept) k (sorted-carried_out changes kept inside.by_key) (carried_held k);
  }

  -- more places
  module _ (grown : KeptDocs) (more : Lists) (grows : IsGrown kept grown) (sorted : IsSorted key_cmp grown) (listed : (s : ℕ) (k : Key) → is_listed lists s k ≡ true → is_listed more s k ≡ true) where
    pub inside_grown : IsInside grown changes more
    inside_grown = record {
      by_key = sorted;
      held = λ k. (grows.docs k).held (inside.held k);
      listed = λ k s h. listed s k (inside.listed k s (ap (has s) (sym (grows.docs k).same.publishers) ∙ h));
      changes_by_key = inside.changes_by_key;
      ready = λ k change is.
          let was = inside.ready k change is in
          let e = kept_at key_cmp kept k in
          let g = kept_at key_cmp grown k in
          record {
            place = grows.keys k was.place;
            places = places_on e g change (grows.docs k) was.places;
            held = change_held e g change (grows.docs k).same ((grows.docs k).held (inside.held k)).by_name was.held;
          };
      will_list = λ k change s is h. listed s k (inside.will_list k change s is h);
    }

    pub kept_grown : docs_of grown ≡ docs_of kept
    kept_grown = docs_same kept grown inside.by_key sorted inside.held (λ k. (grows.docs k).held (inside.held k)) (λ k. (grows.docs k).same)

    -- and no more of them are shared
    pub counted_grown : shared_count grown ≡ shared_count kept
    counted_grown = sym (shared_docs grown) ∙ ap shared_count kept_grown ∙ shared_docs kept

pub planned_grown : (kept : KeptDocs) (changes : Changes) (lists : Lists) (inside : IsInside kept changes lists) (grown : KeptDocs) (more : Lists) → IsGrown kept grown → IsInside grown changes more → docs_of (carried_out changes grown) ≡ docs_of (carried_out changes kept)
planned_grown kept changes lists inside grown more grows now =
    docs_same (carried_out changes kept) (carried_out changes grown) (sorted-carried_out changes kept inside.by_key) (sorted-carried_out changes grown now.by_key)
    (carried_held kept changes lists inside) (carried_held grown changes more now)
    (λ k. subst₂ SameDoc (sym (kept_at-carried_out changes kept k inside.changes_by_key)) (sym (kept_at-carried_out changes grown k inside.changes_by_key))
    (after_same (at key_cmp changes k) (kept_at key_cmp kept k) (kept_at key_cmp grown k) (grows.docs k).same))

-- a new plan
module _ (sub : ℕ) (news : List (Key × Option Entries)) (kept : KeptDocs) (before changes : Changes) (lists : Lists) (inside : IsInside kept before lists) (sorted : IsSorted key_cmp changes)
    (planned : (k : Key) → IsPlannedAt sub (last_news key_cmp news k) (kept_at key_cmp kept k) (at key_cmp changes k))
    (room : (k : Key) → IsSome (at key_cmp changes k) → IsSome (at key_cmp kept k))
    (here : (k : Key) → IsPublished (last_news key_cmp news k) → is_listed lists sub k ≡ true) where
  plan_at : (k : Key) (change : Change) → at key_cmp changes k ≡ Some change → IsPlannedAt sub (last_news key_cmp news k) (kept_at key_cmp kept k) (Some change)
  plan_at k change is = subst (IsPlannedAt sub (last_news key_cmp news k) (kept_at key_cmp kept k)) is (planned k)

  lists_it : (w : Option (Option Entries)) (k : Key) (change : Change) (s : ℕ) → IsPlannedAt sub w (kept_at key_cmp kept k) (Some change) → (IsPublished w → is_listed lists sub k ≡ true) → has s (held_in change).publishers ≡ true → is_listed lists s k ≡ true
  lists_it w k change s p listed there = elim (s == sub) as (λ b. (s == sub) ≡ b → cond b (is_some p.0) (has s (publishers_at key_cmp kept k)) ≡ true → is_listed lists s k ≡ true) [
    | true ↦ λ t some. ap (λ r. is_listed lists r k) (same_sub s sub t) ∙ listed (subst IsPublished (sym p.1) some)
    | false ↦ λ _ was. inside.listed k s was
  ] refl (sym (p.2.after.publishers s) ∙ there)

  pub inside_planned : IsInside kept changes lists
  inside_planned = record {
    by_key = inside.by_key;
    held = inside.held;
    listed = inside.listed;
    changes_by_key = sorted;
    ready = λ k change is. let p = plan_at k change is in record { place = room k (ap is_some is); places = p.3; held = p.2.held };
    will_list = λ k change s is there. lists_it (last_news key_cmp news k) k change s (plan_at k change is) (here k) there;
  }

-- one document of a plan
module _ (sub : ℕ) (w : Option (Option Entries)) (old : KeptDoc) where
  planned_publishers : (x : Option Change) → IsPlannedAt sub w old x → (s : ℕ) → has s (with_change_if x old).publishers ≡ there_after sub w s (has s old.publishers)
  planned_publishers None p s = ap (λ v. there_after sub v s (has s old.publishers)) (sym p)
  planned_publishers (Some change) p s = p.2.after.publishers s ∙ ap (λ v. there_after sub v s (has s old.publishers)) (sym p.1)

  planned_claims : (x : Option Change) → IsPlannedAt sub w old x → (f : List ℕ) → claims_of text_cmp (with_change_if x old) f ≡ claims_after text_cmp sub w f (claims_of text_cmp old f)
  planned_claims None p f = ap (λ v. claims_after text_cmp sub v f (claims_of text_cmp old f)) (sym p)
  planned_claims (Some change) p f = p.2.after.claims f ∙ ap (λ v. claims_after text_cmp sub v f (claims_of text_cmp old f)) (sym p.1)

seen_sorted : (e : KeptDoc) → IsHeld e → IfSome (merged_doc e) (IsSorted text_cmp)
seen_sorted e held = elim (is_empty e.publishers) as (λ b. IfSome (cond b None (Some (filter_map_entries (λ f claims. first_value claims) e.fields))) (IsSorted text_cmp)) [
  | true ↦ tt
  | false ↦ sorted-filter_map_entries text_cmp (λ f claims. first_value claims) e.fields held.by_name
]

-- over every list of calls that the box stood for
pub answers_of : (call : Call Key Entries) (old new : KeptDocs) (messages : Told) → IsBox new → IsBoxAfter call old new → Tells old new messages → Answers call old new messages
answers_of call old new messages whole after told = record {
  stands = λ past stands. stands_after key_order name_order call past old new stands after order;
  told = λ past m n stands is_m is_n.
      let stood = merged_is key_order name_order (shown key_cmp past) (shown_since key_cmp text_cmp past) old stands in
      let stands_now = stands_after key_order name_order call past old new stands after order in
      let now = merged_is key_order name_order (shown key_cmp (call ∷ past)) (shown_since key_cmp text_cmp (call ∷ past)) new stands_now in
      let before = one_merge key_order name_order (shown key_cmp past) (shown_since key_cmp text_cmp past) (merged old) m stood is_m in
      let afterwards = one_merge key_order name_order (shown key_cmp (call ∷ past)) (shown_since key_cmp text_cmp (call ∷ past)) (merged new) n now is_n in
      one_diff key_order text_cmp same_value (merged old) (merged new) messages (diff text_cmp same_value key_cmp (merged old) (merged new)) told
      (diff_is key_order text_cmp same_value (merged old) (merged new) (sorted-filter_map_entries key_cmp (λ k e. merged_doc e) new whole.by_key))
      ∙ ap₂ (diff text_cmp same_value key_cmp) before afterwards;
}
  where
    order : IsInOrder key_cmp text_cmp new
    order = record { by_key = whole.by_key; by_name = λ k. (whole.held k).by_name }

module _ (kept : KeptDocs) (changes : Changes) (lists : Lists) (inside : IsInside kept changes lists) where
  told_at : (k : Key) (x : Option Change) → option_and_then (λ change. between text_cmp same_value (merged_doc (kept_at key_cmp kept k)) (merged_doc (with_change (kept_at key_cmp kept k) change))) x
      ≡ between text_cmp same_value (merged_doc (kept_at key_cmp kept k)) (merged_doc (with_change_if x (kept_at key_cmp kept k)))
  told_at k None = sym (between_itself name_order same_value (λ v. ap is_eq (compare_itself v)) (merged_doc (kept_at key_cmp kept k)) (seen_sorted (kept_at key_cmp kept k) (inside.held k)))
  told_at k (Some change) = refl

  tells_inside : (messages : Told) → messages ≡ told_of kept changes → IsDiff text_cmp same_value key_cmp (merged kept) (merged (carried_out changes kept)) messages
  tells_inside messages is = record {
    by_key = subst (IsSorted key_cmp) (sym is) (sorted-filter_map_entries key_cmp (λ k change. between text_cmp same_value (merged_doc (kept_at key_cmp kept k)) (merged_doc (with_change (kept_at key_cmp kept k) change))) changes inside.changes_by_key);
    each = λ k. ap (λ ms. at key_cmp ms k) is
        ∙ at-filter_map_entries key_order (λ q change. between text_cmp same_value (merged_doc (kept_at key_cmp kept q)) (merged_doc (with_change (kept_at key_cmp kept q) change))) changes k inside.changes_by_key
        ∙ told_at k (at key_cmp changes k)
        ∙ sym (ap₂ (between text_cmp same_value) (at-merged key_order name_order kept k inside.by_key)
        (at-merged key_order name_order (carried_out changes kept) k (sorted-carried_out changes kept inside.by_key) ∙ ap merged_doc (kept_at-carried_out changes kept k inside.changes_by_key)));
  }

  tells : (messages : Told) → messages ≡ told_of kept changes → Tells (docs_of kept) (docs_of (carried_out changes kept)) messages
  tells messages is = subst₂ (λ a b. IsDiff text_cmp same_value key_cmp a b messages) (sym (merged_docs kept inside.by_key inside.held))
      (sym (merged_docs (carried_out changes kept) (sorted-carried_out changes kept inside.by_key) (carried_held kept changes lists inside))) (tells_inside messages is)

  -- what is kept of a document now, and once the changes are carried out
  now_same : (k : Key) → SameDoc (kept_at key_cmp kept k) (kept_at key_cmp (docs_of kept) k)
  now_same k = kept_same kept k inside.by_key (inside.held k)

  then_same : (k : Key) → SameDoc (after_at changes kept k) (kept_at key_cmp (docs_of (carried_out changes kept)) k)
  then_same k = subst (λ e. SameDoc e (kept_at key_cmp (docs_of (carried_out changes kept)) k)) (kept_at-carried_out changes kept k inside.changes_by_key)
      (kept_same (carried_out changes kept) k (sorted-carried_out changes kept inside.by_key) (carried_held kept changes lists inside k))

  after_call : (sub : ℕ) (news : List (Key × Option Entries)) → ((k : Key) → IsPlannedAt sub (last_news key_cmp news k) (kept_at key_cmp kept k) (at key_cmp changes k)) → IsBoxAfter (apply sub news) (docs_of kept) (docs_of (carried_out changes kept))
  after_call sub news planned = record {
    publishers = λ k s. ap (has s) (then_same k).publishers ∙ planned_publishers sub (last_news key_cmp news k) (kept_at key_cmp kept k) (at key_cmp changes k) (planned k) s
        ∙ ap (λ ps. there_after sub (last_news key_cmp news k) s (has s ps)) (sym (now_same k).publishers);
    claims = λ k f. (then_same k).claims f ∙ planned_claims sub (last_news key_cmp news k) (kept_at key_cmp kept k) (at key_cmp changes k) (planned k) f
        ∙ ap (claims_after text_cmp sub (last_news key_cmp news k) f) (sym ((now_same k).claims f));
  }

  -- the plan of news
  pub plan_is : (sub : ℕ) (news : List (Key × Option Entries)) (messages : Told) → ((k : Key) → IsPlannedAt sub (last_news key_cmp news k) (kept_at key_cmp kept k) (at key_cmp changes k)) → messages ≡ told_of kept changes
      → IsPlan (apply sub news) (record { kept = docs_of kept; planned = docs_of (carried_out changes kept) }) messages
  plan_is sub news messages planned is =
      let after = after_call sub news planned in
      let told = tells messages is in
      record { after = after; told = told; answers = answers_of (apply sub news) (docs_of kept) (docs_of (carried_out changes kept)) messages (will_be_box kept changes lists inside) after told }

  -- what is kept once it is carried out
  pub carried_is : (new : KeptDocs) → IsSorted key_cmp new → ((k : Key) → IsHeld (kept_at key_cmp new k)) → ((k : Key) → SameDoc (after_at changes kept k) (kept_at key_cmp new k)) → docs_of new ≡ docs_of (carried_out changes kept)
  carried_is new sorted held same = docs_same (carried_out changes kept) new (sorted-carried_out changes kept inside.by_key) sorted (carried_held kept changes lists inside) held
      (λ k. subst (λ e. SameDoc e (kept_at key_cmp new k)) (sym (kept_at-carried_out changes kept k inside.changes_by_key)) (same k))

nothing_planned : (change : Change) → None ≡ Some change → ⊥
nothing_planned change e = cc

-- no plan
pub inside_settled : (kept : KeptDocs) (lists : Lists) → IsSorted key_cmp kept → ((k : Key) → IsHeld (kept_at key_cmp kept k)) → ((k : Key) (s : ℕ) → has s (publishers_at key_cmp kept k) ≡ true → is_listed lists s k ≡ true) → IsInside kept [] lists
inside_settled kept lists sorted held listed = record {
  by_key = sorted;
  held = held;
  listed = listed;
  changes_by_key = sorted-nil key_cmp;
  ready = λ k change is. absurd (nothing_planned change is);
  will_list = λ k change s is _. absurd (nothing_planned change is);
}

pub empty_inside : IsInside [] [] []
empty_inside = inside_settled [] [] (sorted-nil key_cmp) (λ k. record { by_name = sorted-nil text_cmp; published = λ f s h. absurd (true≢false (sym h)); once = λ f. tt }) (λ k s h. absurd (true≢false (sym h)))

-- ---- the plan of a subscription's end: it publishes nothing of what is not listed
false_of : (b c : Bool) → (b ≡ true → c ≡ true) → c ≡ false → b ≡ false
false_of true c h e = absurd (true≢false (sym (h refl) ∙ e))
false_of false c h e = refl

abbrev pub gone_if : Bool → Option (Option Entries)
gone_if b = cond b (Some None) None

module _ (sub : ℕ) (news : List (Key × Option Entries)) (box : BoxState) (messages : Told) (listed : Key → Bool) (whole : IsBox box.kept) (then_whole : IsBox box.planned)
    (gone : (k : Key) → last_news key_cmp news k ≡ gone_if (listed k)) (publishes : (k : Key) → has sub (publishers_at key_cmp box.kept k) ≡ true → listed k ≡ true) where
  unpublished : (k : Key) → listed k ≡ false → has sub (publishers_at key_cmp box.kept k) ≡ false
  unpublished k e = false_of (has sub (publishers_at key_cmp box.kept k)) (listed k) (publishes k) e

  unclaimed : (k : Key) (f : List ℕ) → listed k ≡ false → is_some (claimed sub (claims_of text_cmp (kept_at key_cmp box.kept k) f)) ≡ false
  unclaimed k f e = false_of (is_some (claimed sub (claims_of text_cmp (kept_at key_cmp box.kept k) f))) (listed k) (λ some. publishes k ((whole.held k).published f sub some)) e

  drop_after : IsPlan (apply sub news) box messages → IsBoxAfter (drop_sub sub) box.kept box.planned
  drop_after is = record {
    publishers = λ k s. is.after.publishers k s ∙ ap (λ w. there_after sub w s (has s (publishers_at key_cmp box.kept k))) (gone k)
        ∙ elim (listed k) as (λ b. listed k ≡ b → there_after sub (gone_if b) s (has s (publishers_at key_cmp box.kept k)) ≡ cond (s == sub) false (has s (publishers_at key_cmp box.kept k))) [
          | true ↦ λ _. refl
          | false ↦ λ e. elim (s == sub) as (λ b. (s == sub) ≡ b → has s (publishers_at key_cmp box.kept k) ≡ cond b false (has s (publishers_at key_cmp box.kept k))) [
            | true ↦ λ t. ap (λ r. has r (publishers_at key_cmp box.kept k)) (same_sub s sub t) ∙ unpublished k e
            | false ↦ λ _. refl
          ] refl
        ] refl;
    claims = λ k f. is.after.claims k f ∙ ap (λ w. claims_after text_cmp sub w f (claims_of text_cmp (kept_at key_cmp box.kept k) f)) (gone k)
        ∙ elim (listed k) as (λ b. listed k ≡ b → claims_after text_cmp sub (gone_if b) f (claims_of text_cmp (kept_at key_cmp box.kept k) f) ≡ placed sub None (claims_of text_cmp (kept_at key_cmp box.kept k) f)) [
          | true ↦ λ _. refl
          | false ↦ λ e. sym (no_claim sub (claims_of text_cmp (kept_at key_cmp box.kept k) f) (unclaimed k f e))
        ] refl;
  }

  pub drop_is : IsPlan (apply sub news) box messages → IsPlan (drop_sub sub) box messages
  drop_is is = record { after = drop_after is; told = is.told; answers = answers_of (drop_sub sub) box.kept box.planned messages then_whole (drop_after is) is.told }

-- the plan of news that leave the same at each key
pub same_news : (sub : ℕ) (news others : List (Key × Option Entries)) (box : BoxState) (messages : Told) → IsBox box.planned → ((k : Key) → last_news key_cmp others k ≡ last_news key_cmp news k) → IsPlan (apply sub others) box messages → IsPlan (apply sub news) box messages
same_news sub news others box messages whole same is =
    let after : IsBoxAfter (apply sub news) box.kept box.planned = record {
      publishers = λ k s. is.after.publishers k s ∙ ap (λ w. there_after sub w s (has s (publishers_at key_cmp box.kept k))) (same k);
      claims = λ k f. is.after.claims k f ∙ ap (λ w. claims_after text_cmp sub w f (claims_of text_cmp (kept_at key_cmp box.kept k) f)) (same k);
    } in
    record { after = after; told = is.told; answers = answers_of (apply sub news) box.kept box.planned messages whole after is.told }

pub map_ok : {T E : Type 0} (r : Result T E) (P Q : T → Type 0) → ((x : T) → P x → Q x) → IfOk r P → IfOk r Q
map_ok (Ok x) P Q f h = f x h
map_ok (Err e) P Q f h = tt

pub both_ok : {T E : Type 0} (r : Result T E) (P Q R : T → Type 0) → ((x : T) → P x → Q x → R x) → IfOk r P → IfOk r Q → IfOk r R
both_ok (Ok x) P Q R f h i = f x h i
both_ok (Err e) P Q R f h i = tt

pub on_err : {T E : Type 0} (r : Result T E) (P : Type 0) → P → OnErr r P
on_err (Ok x) P h = tt
on_err (Err e) P h = h

pub on_ok : {T E : Type 0} (r : Result T E) (P Q : Type 0) → (P → Q) → OnOk r P → OnOk r Q
on_ok (Ok x) P Q f h = f h
on_ok (Err e) P Q f h = tt
