-- With the whole query put into none, and with a difference put into what was published before it, there is what is published then.
use Rattle.std.specs.Prelude.{◌≡◌, List, [], ◌∷◌, map, true, false, cond, Option, Some, None, unwrap_or, option_map, refl}
use Rattle.std.proofs.Common.{ap, sym, subst, ◌∙◌}
use Rattle.std.specs.Option.{option_or}
use Rattle.std.specs.declared.cmp.Ordering.{Ordering}
use Rattle.std.specs.Ordering.{eq_by_cmp}
use Rattle.std.specs.Map.{keys_of}
use Rattle.std.specs.List.Sorted.{IsStrictlySortedBy}
use Rattle.std.proofs.lemmas.Map.Keys.{sorted_tail}
use Rattle.map_model.specs.Maps.{at, set, IsSorted, IsKeyOrder}
use Rattle.map_model.specs.MapLaws.{same_maps, at-tail, sorted-nil, sorted-set}
use Rattle.merge_model.specs.Publishing.{renewed, last_news}
use Rattle.merge_model.specs.PublishingLaws.{at-renewed}
use Rattle.value_model.specs.Val.{Entries}
use Rattle.ejson_value.specs.declared.key.Key.{Key}
use Rattle.ejson_value.specs.declared.change.Publish.{Publish}
use Rattle.ejson_value.specs.Key.{key_cmp, key_order}
use Rattle.ejson_value.specs.Rows.{Rows}
use Rattle.ejson_value.specs.Changes.{news_of}
use Rattle.publication.specs.Cursors.{ACursors}
use Rattle.publication.specs.Published.{published, publish_of, IsQuery}
use Rattle.live_observer.specs.Observing.{IsDifference}
use Rattle.session_model.specs.Publication.{queried}
use Rattle.session_journal_laws.specs.PublicationLaws.{sorted_queried, at_queried}

module _ {K D : Type 0} {R : K → K → Ordering} (o : IsKeyOrder R) where
  pub sorted_renewed : (a : List (K × D)) (ns : List (K × Option D)) → IsSorted R a → IsSorted R (renewed R a ns)
  sorted_renewed a [] p = p
  sorted_renewed a (n ∷ ns) p = sorted_renewed (set R a n.0 n.1) ns (sorted-set o a n.0 n.1 p)

  -- news by key leave at each key what they have there
  last_is : (ns : List (K × Option D)) (k : K) → IsSorted R ns → last_news R ns k ≡ at R ns k
  last_is [] k s = refl
  last_is (n ∷ ns) k s =
      ap (λ (x : Option (Option D)). option_or x (cond (eq_by_cmp R k n.0) (Some n.1) None)) (last_is ns k (sorted_tail _ _ _ s))
      ∙ elim (eq_by_cmp R k n.0) as (λ b. eq_by_cmp R k n.0 ≡ b → option_or (at R ns k) (cond b (Some n.1) None) ≡ cond b (Some n.1) (at R ns k)) [
        | true ↦ λ is. ap (λ (x : Option (Option D)). option_or x (Some n.1)) (at-tail o n ns k s is)
        | false ↦ λ is. or_none (at R ns k)
      ] refl
    where
      or_none : (x : Option (Option D)) → option_or x None ≡ x
      or_none None = refl
      or_none (Some d) = refl

  pub renewed_at : (a : List (K × D)) (ns : List (K × Option D)) (k : K) → IsSorted R a → IsSorted R ns →
      at R (renewed R a ns) k ≡ unwrap_or (at R ns k) (at R a k)
  renewed_at a ns k p q = at-renewed o a ns k p ∙ ap (λ (x : Option (Option D)). unwrap_or x (at R a k)) (last_is ns k q)

-- ---- the whole query

listed_keys : (documents : Rows) → keys_of (news_of (map publish_of documents)) ≡ keys_of documents
listed_keys [] = refl
listed_keys (row ∷ documents) = ap (λ (ks : List Key). row.0 ∷ ks) (listed_keys documents)

listed_at : (documents : Rows) (key : Key) →
    at key_cmp (news_of (map publish_of documents)) key ≡ option_map (λ (doc : Entries). let one : Option Entries = Some doc in one) (at key_cmp documents key)
listed_at [] key = refl
listed_at (row ∷ documents) key = elim (eq_by_cmp key_cmp key row.0) as
    (λ b. cond b (Some (Some row.1)) (at key_cmp (news_of (map publish_of documents)) key)
    ≡ option_map (λ (doc : Entries). let one : Option Entries = Some doc in one) (cond b (Some row.1) (at key_cmp documents key))) [
      | true ↦ refl
      | false ↦ listed_at documents key
    ]

some_back : (o : Option Entries) → unwrap_or (option_map (λ (doc : Entries). let one : Option Entries = Some doc in one) o) None ≡ o
some_back None = refl
some_back (Some doc) = refl

pub query_leads : (cursors : ACursors) (rows : Rows) (answer : List Publish) → IsSorted key_cmp rows → IsQuery cursors rows answer →
    renewed key_cmp [] (news_of answer) ≡ queried cursors rows
query_leads cursors rows answer s q =
    let documents = q.documents in
    let none : Rows = [] in
    let news = news_of (map publish_of documents) in
    let sorted : IsSorted key_cmp news = subst (λ (ks : List Key). IsStrictlySortedBy key_cmp ks) (sym (listed_keys documents)) q.by_key in
    ap (λ (ps : List Publish). renewed key_cmp none (news_of ps)) q.listed
    ∙ same_maps key_order (renewed key_cmp none news) (queried cursors rows) (sorted_renewed key_order none news (sorted-nil key_cmp))
    (sorted_queried cursors rows s) (λ key.
    renewed_at key_order none news key (sorted-nil key_cmp) sorted
    ∙ (ap (λ (x : Option (Option Entries)). unwrap_or x None) (listed_at documents key)
    ∙ (some_back (at key_cmp documents key) ∙ (q.each key ∙ sym (at_queried cursors rows key s)))))

-- ---- a difference

differs_by : (before after : Key → Option Entries) (told : List (Key × Option Entries)) (key : Key) → IsDifference before after told →
    (o : Option (Option Entries)) → at key_cmp told key ≡ o → unwrap_or o (before key) ≡ after key
differs_by before after told key d None e = d.quiet key e
differs_by before after told key d (Some doc) e = (d.news key doc e).0

pub difference_leads : (cursors : ACursors) (rows rows' : Rows) (told : List (Key × Option Entries)) → IsSorted key_cmp rows → IsSorted key_cmp rows' →
    IsDifference (published cursors rows) (published cursors rows') told →
    renewed key_cmp (queried cursors rows) told ≡ queried cursors rows'
difference_leads cursors rows rows' told p q d =
    let shown = queried cursors rows in
    let sorted = sorted_queried cursors rows p in
    same_maps key_order (renewed key_cmp shown told) (queried cursors rows') (sorted_renewed key_order shown told sorted)
    (sorted_queried cursors rows' q) (λ key.
    renewed_at key_order shown told key sorted d.by_key
    ∙ (ap (λ (x : Option Entries). unwrap_or (at key_cmp told key) x) (at_queried cursors rows key p)
    ∙ (differs_by (published cursors rows) (published cursors rows') told key d (at key_cmp told key) refl ∙ sym (at_queried cursors rows' key q))))
