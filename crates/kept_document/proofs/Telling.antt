-- What a change tells a client of a document.
use Rattle.std.proofs.Common.{◌≡◌, ℕ, true, false, cond, not, List, [], ◌∷◌, Option, Some, None, is_some, option_and_then, refl, sym, ap, ap₂, ◌∙◌, true≢false}
use Rattle.std.specs.Map.{keys_of}
use Rattle.std.specs.Option.{option_or}
use Rattle.std.specs.Ordering.{is_eq}
use Rattle.map_model.specs.Maps.{at, IsSorted, filter_map_entries}
use Rattle.map_model.specs.MapLaws.{same_maps, sorted-filter, sorted-union, sorted-filter_map_entries, at-filter, at-union, at-filter_map_entries}
use Rattle.map_model.specs.Differences.{is_there, new_fields, cleared}
use Rattle.value_model.specs.Val.{Val, Entries}
use Rattle.value_model.specs.Order.{text_cmp}
use Rattle.value_model.specs.OrderLaws.{compare_itself}
use Rattle.merge_model.specs.Kept.{claimed, has, is_empty, merged_fields, first_value, claims_of}
use Rattle.merge_model.specs.PublishingLaws.{sub-self}
use Rattle.ejson_value.specs.Key.{name_order}
use Rattle.kept_document.specs.declared.held.Change.TheVariants.{Part}
use Rattle.kept_document.specs.Held.{KeptDoc, same_value, new_of, lost_of, IsHeld}
use Rattle.kept_document.specs.Changes.{with_change}
use Rattle.kept_document.specs.Sides.{Both, side_by_side, joined}
use Rattle.kept_document.proofs.Beside.{at-side_by_side, sorted-side_by_side}

itself : (v : Val) → same_value v v ≡ true
itself v = ap is_eq (compare_itself v)

nothing_new : (x : Option Val) → None ≡ new_of x x
nothing_new None = refl
nothing_new (Some v) = sym (ap (λ b. cond (not b) (Some v) None) (itself v))

-- what a field's entry in the change tells, against what is told of all fields
new_at : (change : Option (List (ℕ × Val))) (was : Option (List (ℕ × Val))) → option_and_then (λ claims. new_of (option_and_then first_value was) (first_value claims)) change
    ≡ new_of (option_and_then first_value was) (option_and_then first_value (option_or change was))
new_at None was = nothing_new (option_and_then first_value was)
new_at (Some claims) was = refl

nothing_lost : (x : Option Val) → None ≡ lost_of x x
nothing_lost None = refl
nothing_lost (Some v) = refl

lost_at : (change : Option (List (ℕ × Val))) (was : Option (List (ℕ × Val))) → option_and_then (λ claims. lost_of (option_and_then first_value was) (first_value claims)) change
    ≡ lost_of (option_and_then first_value was) (option_and_then first_value (option_or change was))
lost_at None was = nothing_lost (option_and_then first_value was)
lost_at (Some claims) was = refl

-- what a change in part tells
module _ (old part : KeptDoc) (was : IsSorted text_cmp old.fields) (sorted : IsSorted text_cmp part.fields) where
  abbrev now : KeptDoc
  now = with_change old (Part part)

  seen_at : (f : List ℕ) → at text_cmp (merged_fields old.fields) f ≡ option_and_then first_value (at text_cmp old.fields f)
  seen_at f = at-filter_map_entries name_order (λ q claims. first_value claims) old.fields f was

  sorted_now : IsSorted text_cmp now.fields
  sorted_now = sorted-union name_order part.fields old.fields was

  now_at : (f : List ℕ) → at text_cmp (merged_fields now.fields) f ≡ option_and_then first_value (option_or (at text_cmp part.fields f) (at text_cmp old.fields f))
  now_at f = at-filter_map_entries name_order (λ q claims. first_value claims) now.fields f sorted_now ∙ ap (option_and_then first_value) (at-union name_order part.fields old.fields f)

  sorted_seen : IsSorted text_cmp (merged_fields old.fields)
  sorted_seen = sorted-filter_map_entries text_cmp (λ q claims. first_value claims) old.fields was

  sorted_seen_now : IsSorted text_cmp (merged_fields now.fields)
  sorted_seen_now = sorted-filter_map_entries text_cmp (λ q claims. first_value claims) now.fields sorted_now

  -- the fields that are new
  pub told_fields : filter_map_entries (λ f claims. new_of (at text_cmp (merged_fields old.fields) f) (first_value claims)) part.fields ≡ new_fields text_cmp same_value (merged_fields old.fields) (merged_fields now.fields)
  told_fields = same_maps name_order _ _
      (sorted-filter_map_entries text_cmp (λ f claims. new_of (at text_cmp (merged_fields old.fields) f) (first_value claims)) part.fields sorted)
      (sorted-filter name_order (λ e. not (is_there text_cmp same_value e.1 (at text_cmp (merged_fields old.fields) e.0))) (merged_fields now.fields) sorted_seen_now)
      (λ q.
      at-filter_map_entries name_order (λ f claims. new_of (at text_cmp (merged_fields old.fields) f) (first_value claims)) part.fields q sorted
      ∙ ap (λ x. option_and_then (λ claims. new_of x (first_value claims)) (at text_cmp part.fields q)) (seen_at q)
      ∙ new_at (at text_cmp part.fields q) (at text_cmp old.fields q)
      ∙ sym (at-filter name_order (λ e. not (is_there text_cmp same_value e.1 (at text_cmp (merged_fields old.fields) e.0))) (merged_fields now.fields) q sorted_seen_now
      ∙ ap₂ new_of (seen_at q) (now_at q)))

  -- the names that are gone
  pub told_names : keys_of (filter_map_entries (λ f claims. lost_of (at text_cmp (merged_fields old.fields) f) (first_value claims)) part.fields) ≡ cleared text_cmp same_value (merged_fields old.fields) (merged_fields now.fields)
  told_names = ap keys_of (same_maps name_order _ _
      (sorted-filter_map_entries text_cmp (λ f claims. lost_of (at text_cmp (merged_fields old.fields) f) (first_value claims)) part.fields sorted)
      (sorted-filter name_order (λ e. not (is_some (at text_cmp (merged_fields now.fields) e.0))) (merged_fields old.fields) sorted_seen)
      (λ q.
      at-filter_map_entries name_order (λ f claims. lost_of (at text_cmp (merged_fields old.fields) f) (first_value claims)) part.fields q sorted
      ∙ ap (λ x. option_and_then (λ claims. lost_of x (first_value claims)) (at text_cmp part.fields q)) (seen_at q)
      ∙ lost_at (at text_cmp part.fields q) (at text_cmp old.fields q)
      ∙ sym (at-filter name_order (λ e. not (is_some (at text_cmp (merged_fields now.fields) e.0))) (merged_fields old.fields) q sorted_seen
      ∙ ap₂ lost_of (seen_at q) (now_at q))))

-- what two documents side by side tell
new_joined : (x y : Option Val) → option_and_then (λ b. new_of b.0 b.1) (joined x y) ≡ new_of x y
new_joined None None = refl
new_joined None (Some w) = refl
new_joined (Some v) w = refl

lost_joined : (x y : Option Val) → option_and_then (λ b. lost_of b.0 b.1) (joined x y) ≡ lost_of x y
lost_joined None None = refl
lost_joined None (Some w) = refl
lost_joined (Some v) w = refl

module _ (before after : Entries) (was : IsSorted text_cmp before) (sorted : IsSorted text_cmp after) where
  abbrev both : List (List ℕ × Both Val Val)
  both = side_by_side text_cmp before after

  sorted_both : IsSorted text_cmp both
  sorted_both = sorted-side_by_side name_order before after was sorted

  pub new_of_both : filter_map_entries (λ f b. new_of b.0 b.1) both ≡ new_fields text_cmp same_value before after
  new_of_both = same_maps name_order _ _ (sorted-filter_map_entries text_cmp (λ f b. new_of b.0 b.1) both sorted_both)
      (sorted-filter name_order (λ e. not (is_there text_cmp same_value e.1 (at text_cmp before e.0))) after sorted)
      (λ q.
      at-filter_map_entries name_order (λ f b. new_of b.0 b.1) both q sorted_both
      ∙ ap (option_and_then (λ b. new_of b.0 b.1)) (at-side_by_side name_order before after q was sorted)
      ∙ new_joined (at text_cmp before q) (at text_cmp after q)
      ∙ sym (at-filter name_order (λ e. not (is_there text_cmp same_value e.1 (at text_cmp before e.0))) after q sorted))

  pub lost_of_both : keys_of (filter_map_entries (λ f b. lost_of b.0 b.1) both) ≡ cleared text_cmp same_value before after
  lost_of_both = ap keys_of (same_maps name_order _ _ (sorted-filter_map_entries text_cmp (λ f b. lost_of b.0 b.1) both sorted_both)
      (sorted-filter name_order (λ e. not (is_some (at text_cmp after e.0))) before was)
      (λ q.
      at-filter_map_entries name_order (λ f b. lost_of b.0 b.1) both q sorted_both
      ∙ ap (option_and_then (λ b. lost_of b.0 b.1)) (at-side_by_side name_order before after q was sorted)
      ∙ lost_joined (at text_cmp before q) (at text_cmp after q)
      ∙ sym (at-filter name_order (λ e. not (is_some (at text_cmp after e.0))) before q was)))

-- ---- a document that nobody publishes has no claims
no_publisher : (ps : List ℕ) (s : ℕ) → is_empty ps ≡ true → has s ps ≡ false
no_publisher [] s e = refl
no_publisher (p ∷ ps) s e = absurd (true≢false (sym e))

unclaimed : (claims : List (ℕ × Val)) → ((s : ℕ) → is_some (claimed s claims) ≡ true → ⊥) → claims ≡ []
unclaimed [] none = refl
unclaimed (c ∷ claims) none = absurd (none c.0 (ap (λ b. is_some (cond b (Some c.1) (claimed c.0 claims))) (sub-self c.0)))

pub no_claims : (e : KeptDoc) (f : List ℕ) → IsHeld e → is_empty e.publishers ≡ true → claims_of text_cmp e f ≡ []
no_claims e f held none = unclaimed (claims_of text_cmp e f) (λ s some. true≢false (sym (held.published f s some) ∙ no_publisher e.publishers s none))
