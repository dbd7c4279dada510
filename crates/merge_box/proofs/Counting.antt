-- How many documents two or more subscriptions publish.
use Rattle.std.proofs.Common.{◌≡◌, ℕ, ◌+◌, ◌≤◌, Bool, true, false, cond, filter, length, arith, [], ◌∷◌, Option, Some, None, option_map, unwrap_or, refl, sym, ap, ◌∙◌}
use Rattle.std.specs.List.{sum_by}
use Rattle.std.specs.Map.{values_of}
use Rattle.std.specs.BTreeMap.{is_at}
use Rattle.std.specs.Ordering.{eq_by_cmp}
use Rattle.std.proofs.lemmas.List.Sums.{sum_by-cons}
use Rattle.std.proofs.lemmas.Map.Entries.{sum_by-insert_entry, sum_by-remove_entry}
use Rattle.merge_model.specs.Kept.{is_empty, publishers_at}
use Rattle.map_model.specs.Maps.{at, set, IsSorted, keyed}
use Rattle.map_model.specs.MapLaws.{key_is, same_maps, at-set, sorted-set}
use Rattle.ejson_value.specs.Key.{key_cmp, key_order}
use Rattle.ejson_value.specs.declared.key.Key.{Key}
use Rattle.kept_document.specs.Held.{KeptDoc, is_shared}
use Rattle.merge_box.specs.State.{KeptDocs, shared_count}
use Rattle.merge_box.specs.Inside.{claimed_fields, docs_of}

abbrev pub Entry : Type 0
Entry = Key × KeptDoc

pub filter_le : (p : Entry → Bool) (es : KeptDocs) → length (filter p es) ≤ length es
filter_le p [] = omega arith
filter_le p (e ∷ es) =
    let rest = filter_le p es in
    elim (p e) as (λ b. length (cond b (e ∷ filter p es) (filter p es)) ≤ length (e ∷ es)) [ true ↦ omega (arith, rest) | false ↦ omega (arith, rest) ]

abbrev pub shared : Entry → Bool
shared e = is_shared e.1.publishers

-- a document that nobody publishes is not counted
pub shared_docs : (kept : KeptDocs) → shared_count (docs_of kept) ≡ shared_count kept
shared_docs [] = refl
shared_docs (e ∷ kept) =
    let rest = shared_docs kept in
    elim e.1.publishers as (λ ps. length (filter shared (keyed e.0 (cond (is_empty ps) None (Some (record { publishers = ps; fields = claimed_fields e.1.fields }))) (docs_of kept))) ≡ length (cond (is_shared ps) (e ∷ filter shared kept) (filter shared kept))) [
      | [] ↦ rest
      | p ∷ ps ↦ elim (is_shared (p ∷ ps)) as (λ b. length (cond b ((e.0, record { publishers = p ∷ ps; fields = claimed_fields e.1.fields }) ∷ filter shared (docs_of kept)) (filter shared (docs_of kept))) ≡ length (cond b (e ∷ filter shared kept) (filter shared kept))) [
        | true ↦ omega (arith, rest)
        | false ↦ rest
      ]
    ]

-- ---- one document changes
abbrev pub one_if : Bool → ℕ
one_if b = cond b 1 0

abbrev pub weight : KeptDoc → ℕ
weight e = one_if (is_shared e.publishers)

sum_is : (kept : KeptDocs) → shared_count kept ≡ sum_by weight (values_of kept)
sum_is [] = refl
sum_is (e ∷ kept) =
    let rest = sum_is kept in
    elim (is_shared e.1.publishers) as (λ b. length (cond b (e ∷ filter shared kept) (filter shared kept)) ≡ one_if b + sum_by weight (values_of kept)) [
      | true ↦ omega (arith, rest)
      | false ↦ omega (arith, rest)
    ]
    ∙ sym (sum_by-cons weight e.1 (values_of kept))

weight_at : (x : Option KeptDoc) → unwrap_or (option_map weight x) 0 ≡ weight (unwrap_or x (record { publishers = []; fields = [] }))
weight_at None = refl
weight_at (Some e) = refl

set_count : (old : KeptDocs) (key : Key) (w : Option KeptDoc) → IsSorted key_cmp old → shared_count (set key_cmp old key w) + one_if (is_shared (publishers_at key_cmp old key)) ≡ shared_count old + unwrap_or (option_map weight w) 0
set_count old key None s =
    let lost = sum_by-remove_entry weight (is_at (key_cmp key)) old in
    omega (arith, lost, sum_is old, sum_is (set key_cmp old key None), weight_at (at key_cmp old key))
set_count old key (Some e) s =
    let put = sum_by-insert_entry weight key_order.total old key e s in
    omega (arith, put, sum_is old, sum_is (set key_cmp old key (Some e)), weight_at (at key_cmp old key))

module _ (old new : KeptDocs) (key : Key) (before : IsSorted key_cmp old) (after : IsSorted key_cmp new) (others : (k : Key) → eq_by_cmp key_cmp k key ≡ false → at key_cmp new k ≡ at key_cmp old k) where
  is_set : new ≡ set key_cmp old key (at key_cmp new key)
  is_set = same_maps key_order new (set key_cmp old key (at key_cmp new key)) after (sorted-set key_order old key (at key_cmp new key) before)
      (λ k. elim (eq_by_cmp key_cmp k key) as (λ b. eq_by_cmp key_cmp k key ≡ b → at key_cmp new k ≡ cond b (at key_cmp new key) (at key_cmp old k)) [
        | true ↦ λ t. ap (at key_cmp new) (key_is key_order k key t)
        | false ↦ λ t. others k t
      ] refl ∙ sym (at-set key_order old key (at key_cmp new key) k before))

  pub count_changed : (was is : Bool) → was ≡ is_shared (publishers_at key_cmp old key) → is_shared (publishers_at key_cmp new key) ≡ is → shared_count new + one_if was ≡ shared_count old + one_if is
  count_changed was is had has =
      ap (λ b. shared_count new + one_if b) had
      ∙ ap (λ m. shared_count m + one_if (is_shared (publishers_at key_cmp old key))) is_set
      ∙ set_count old key (at key_cmp new key) before
      ∙ ap (λ n. shared_count old + n) (weight_at (at key_cmp new key) ∙ ap one_if has)

-- what is shared counts
pub shared_counts : (kept : KeptDocs) (key : Key) (was : Bool) → IsSorted key_cmp kept → was ≡ is_shared (publishers_at key_cmp kept key) → one_if was ≤ shared_count kept
shared_counts kept key was s had = omega (arith, set_count kept key None s, ap one_if had)

-- there are no more than documents
pub count_le : (kept : KeptDocs) → shared_count kept ≤ length kept
count_le kept = filter_le shared kept
