-- The difference of two maps by two walks.
use Rattle.std.specs.Prelude.{◌≡◌, ℕ, Bool, true, false, cond, ◌||◌, List, [], ◌∷◌, ◌++◌, map, filter, Option, Some, None, is_some, option_map, option_and_then, refl, if◌then◌else◌}
use Rattle.std.specs.Option.{option_or}
use Rattle.std.specs.List.{list_any}
use Rattle.std.specs.declared.cmp.Ordering.{Ordering}
use Rattle.std.specs.Ordering.{eq_by_cmp}
use Rattle.std.specs.Map.{keys_of, values_of}
use Rattle.std.proofs.Common.{sym, ap, ap₂, ◌∙◌}
use Rattle.std.proofs.lemmas.Map.Keys.{sorted_tail}
use Rattle.map_model.specs.Maps.{at, IsSorted, IsKeyOrder, union, collect, keyed}
use Rattle.map_model.specs.MapLaws.{at-put, sorted-put, at-tail, key_is, at-union, sorted-union, at-collect, sorted-collect, is_some-at, same_maps, sorted-nil}
use Rattle.map_model.specs.Differences.{Step, between}
use Rattle.value_model.specs.Val.{Val, Entries}
use Rattle.value_model.specs.Order.{text_cmp}
use Rattle.ejson_value.specs.declared.key.Key.{Key}
use Rattle.ejson_value.specs.declared.message.DataMsg.{DataMsg}
use Rattle.ejson_value.specs.declared.message.DataMsg.TheVariants as message
use Rattle.ejson_value.specs.Key.{key_cmp, key_order}
use Rattle.ejson_value.specs.Rows.{Rows, AreRows}
use Rattle.ejson_value.specs.Messages.{said}
use Rattle.ddp_messages.specs.ServerMessage.{about}
use Rattle.merge_model.specs.Kept.{merged_doc, merged_fields}
use Rattle.kept_document.specs.declared.held.Change.{Change}
use Rattle.kept_document.specs.declared.held.Change.TheVariants.{Whole}
use Rattle.kept_document.specs.Held.{KeptDoc, put_some, alone_if}
use Rattle.kept_document.specs.Changes.{with_change}
use Rattle.ejson_value.specs.Messages.{saying}
use Rattle.ddp_messages.specs.Texts.{server_text}
use Rattle.reconnect_model.specs.Giving.{same_value, step_text, differences}
use Rattle.reconnect_parts.specs.Differences.{put_all, text_between, change_at, new_at}

module _ {K : Type 0} {R : K → K → Ordering} (o : IsKeyOrder R) where
  at-put_some : {Y : Type 0} (m : List (K × Y)) (k : K) (w : Option Y) (q : K) → at R (put_some R m k w) q ≡ cond (eq_by_cmp R q k) (option_or w (at R m q)) (at R m q)
  at-put_some m k None q = elim (eq_by_cmp R q k) as (λ b. at R m q ≡ cond b (at R m q) (at R m q)) [ true ↦ refl | false ↦ refl ]
  at-put_some m k (Some v) q = at-put o m k v q

  sorted-put_some : {Y : Type 0} (m : List (K × Y)) (k : K) (w : Option Y) → IsSorted R m → IsSorted R (put_some R m k w)
  sorted-put_some m k None s = s
  sorted-put_some m k (Some v) s = sorted-put o m k v s

  sorted-put_all : {X Y : Type 0} (f : K → X → Option Y) (m : List (K × Y)) (rows : List (K × X)) → IsSorted R m → IsSorted R (put_all R f m rows)
  sorted-put_all f m [] s = s
  sorted-put_all f m (row ∷ rows) s = sorted-put_all f (put_some R m row.0 (f row.0 row.1)) rows (sorted-put_some m row.0 (f row.0 row.1) s)

  at-put_all : {X Y : Type 0} (f : K → X → Option Y) (m : List (K × Y)) (rows : List (K × X)) (q : K) → IsSorted R rows → at R (put_all R f m rows) q ≡ option_or (option_and_then (f q) (at R rows q)) (at R m q)
  at-put_all f m [] q s = refl
  at-put_all {X} {Y} f m (row ∷ rows) q s =
      at-put_all f (put_some R m row.0 (f row.0 row.1)) rows q (sorted_tail R _ _ s)
      ∙ ap (option_or (option_and_then (f q) (at R rows q))) (at-put_some m row.0 (f row.0 row.1) q)
      ∙ elim (eq_by_cmp R q row.0)
      as (λ b. eq_by_cmp R q row.0 ≡ b → option_or (option_and_then (f q) (at R rows q)) (cond b (option_or (f row.0 row.1) (at R m q)) (at R m q)) ≡ option_or (option_and_then (f q) (cond b (Some row.1) (at R rows q))) (at R m q)) [
        | true ↦ λ t.
            ap (λ (w : Option X). option_or (option_and_then (f q) w) (option_or (f row.0 row.1) (at R m q))) (at-tail o row rows q s t)
            ∙ ap (λ k. option_or (f k row.1) (at R m q)) (sym (key_is o q row.0 t))
        | false ↦ λ t. refl
      ] refl

module _ {K X Y : Type 0} {R : K → K → Ordering} (o : IsKeyOrder R) (f : K → Option X → Option X → Option Y) where
  -- what is said where there was something, and where there was nothing
  abbrev was_at : List (K × X) → K → X → Option Y
  was_at b k x = f k (Some x) (at R b k)

  abbrev is_new_at : List (K × X) → K → X → Option Y
  is_new_at a k y = if is_some (at R a k) then None else f k None (Some y)

  or_none : (w : Option Y) → option_or w None ≡ w
  or_none None = refl
  or_none (Some y) = refl

  both : (k : K) (x y : Option X) → option_or (option_and_then (λ (v : X). if is_some x then None else f k None (Some v)) y) (option_or (option_and_then (λ (u : X). f k (Some u) y) x) None) ≡ cond (is_some (option_or x y)) (f k x y) None
  both k None None = refl
  both k None (Some v) = or_none (f k None (Some v))
  both k (Some u) None = or_none (f k (Some u) None)
  both k (Some u) (Some v) = or_none (f k (Some u) (Some v))

  -- two walks say of each key what there is to say
  walked : (a b : List (K × X)) → IsSorted R a → IsSorted R b → put_all R (is_new_at a) (put_all R (was_at b) [] a) b ≡ collect (λ k. f k (at R a k) (at R b k)) (keys_of (union R a b))
  walked a b s t =
      same_maps o _ _ (sorted-put_all o (is_new_at a) _ b (sorted-put_all o (was_at b) [] a (sorted-nil R))) (sorted-collect o (λ k. f k (at R a k) (at R b k)) (keys_of (union R a b)) (sorted-union o a b t)) (λ q.
      at-put_all o (is_new_at a) (put_all R (was_at b) [] a) b q t
      ∙ ap (option_or (option_and_then (is_new_at a q) (at R b q))) (at-put_all o (was_at b) [] a q s)
      ∙ both q (at R a q) (at R b q)
      ∙ ap (λ w. cond (is_some w) (f q (at R a q) (at R b q)) None) (sym (at-union o a b q))
      ∙ ap (λ c. cond c (f q (at R a q) (at R b q)) None) (is_some-at R (union R a b) q)
      ∙ sym (at-collect o (λ k. f k (at R a k) (at R b k)) (keys_of (union R a b)) q))

-- what is made of each value
values_of-collect : {K X Y : Type 0} (f : K → Option X) (g : K × X → Y) (ks : List K) → values_of (collect (λ k. option_map (λ x. g (k, x)) (f k)) ks) ≡ map g (collect f ks)
values_of-collect f g [] = refl
values_of-collect {K} {X} {Y} f g (k ∷ ks) =
    let rest = values_of-collect f g ks in
    elim (f k) as (λ (w : Option X). values_of (keyed k (option_map (λ x. g (k, x)) w) (collect (λ k. option_map (λ x. g (k, x)) (f k)) ks)) ≡ map g (keyed k w (collect f ks))) [
      | None ↦ rest
      | Some x ↦ ap (λ r. g (k, x) ∷ r) rest
    ]

pub differences_walked : (given copy : Rows) → AreRows given → AreRows copy → values_of (put_all key_cmp (new_at given) (put_all key_cmp (change_at copy) [] given) copy) ≡ differences given copy
differences_walked given copy g c =
    ap values_of (walked key_order text_between given copy g.by_key c.by_key)
    ∙ values_of-collect (λ k. between text_cmp same_value (at key_cmp given k) (at key_cmp copy k)) step_text (keys_of (union key_cmp given copy))

-- ---- one document

merged_alone : (doc : Entries) → merged_fields (map (λ (e : List ℕ × Val). (e.0, (0, e.1) ∷ [])) doc) ≡ doc
merged_alone [] = refl
merged_alone (e ∷ doc) = ap (λ rest. e ∷ rest) (merged_alone doc)

-- what one subscription alone publishes is what its client sees
pub merged_alone-if : (doc : Option Entries) → merged_doc (alone_if 0 doc) ≡ doc
merged_alone-if None = refl
merged_alone-if (Some doc) = ap Some (merged_alone doc)

same_whole : (x : Change) (a b : KeptDoc) → x ≡ Whole a → x ≡ Whole b → a ≡ b
same_whole x a b p q = let both : Whole a ≡ Whole b = sym p ∙ q in cc both

-- what is told of a document that the subscription alone publishes before and afterwards
pub told_between : (before after : Option Entries) (x change : Change) (held : KeptDoc) → x ≡ Whole held → x ≡ Whole (alone_if 0 before) → change ≡ Whole (alone_if 0 after) →
    between text_cmp same_value (merged_doc held) (merged_doc (with_change held change)) ≡ between text_cmp same_value before after
told_between before after x change held is was now =
    ap (λ (e : KeptDoc). between text_cmp same_value (merged_doc e) (merged_doc (with_change e change))) (same_whole x held (alone_if 0 before) is was)
    ∙ ap (λ (ch : Change). between text_cmp same_value (merged_doc (alone_if 0 before)) (merged_doc (with_change (alone_if 0 before) ch))) now
    ∙ ap₂ (between text_cmp same_value) (merged_alone-if before) (merged_alone-if after)

message_said : (m : DataMsg) → saying (said m) ≡ m
message_said (message.Added key fields) = refl
message_said (message.Changed key fields cleared) = refl
message_said (message.Removed key) = refl

pub text_said : (m : DataMsg) (key : Key) (w : Option (Step (List ℕ) Val)) → option_map said (Some m) ≡ option_map (λ step. (key, step)) w → Some (server_text (about m)) ≡ option_map (λ step. step_text (key, step)) w
text_said m key None h = cc h
text_said m key (Some step) h =
    let is : said m ≡ (key, step) = cc h in
    ap Some (ap (λ x. server_text (about x)) (sym (message_said m)) ∙ ap step_text is)

pub nothing_said : (key : Key) (w : Option (Step (List ℕ) Val)) → option_map said None ≡ option_map (λ step. (key, step)) w → None ≡ option_map (λ step. step_text (key, step)) w
nothing_said key None h = refl
nothing_said key (Some step) h = cc h
