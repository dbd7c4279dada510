use Rattle.std.proofs.Common.{◌≡◌, ◌-◌, ℕ, ◌∷◌, Ok, Result, List, None, sym, ap, ap₂, ◌∙◌, arith, rules}
use Rattle.std.proofs.lemmas.Result.{err_from_is_err_and}
use Rattle.serde_json.specs.Find.{as_object}
use Rattle.serde_json.specs.View.{view as json_view}
use Rattle.serde_json.specs.View.{items_view, members_view}
use Rattle.serde_json.specs.declared.value.Value.{Value as Json}
use Rattle.value_model.specs.Val.{Val, Entries}
use Rattle.ejson_codec.specs.declared.fault.EjsonFault.{EjsonFault}
use Rattle.ejson_codec.specs.Reading.{user_made, reading, items_reading, members_reading}
use Rattle.serde_json.specs.declared.value.Value.{the_lemmas}
use Rattle.ejson_value.specs.View.{view}
use Rattle.ejson_codec.proofs.Exits.{fault_passed, fault_passed_below, below_some, escape_object, escape_other, user_too_deep, user_below, user_alone, object_made_ok, object_made_err}
use Rattle.ejson_codec.proofs.Lists.{no_item_yet, item_more, item_fails}
use Rattle.ejson_codec.proofs.Fields.{none_read, one_more_read, member_fails, all_read}
use Rattle.ejson_codec.proofs.reading.+reading.Goals as goal

pub list-loop-tree-init : goal.list-loop-tree-init
list-loop-tree-init t c = no_item_yet _ _ _ c.new-items.ensures

pub list-loop-tree-preserved : goal.list-loop-tree-preserved
list-loop-tree-preserved t c =
    item_more (c.args.levels - 1) c.deref-tree-items.result.now c.loop-tree.tree-index c.tree-item.result (view c.in_ok-value.field-0) c.loop-tree.items c.push.new.self
    (items_reading (c.args.levels - 1) (items_view c.deref-tree-items.result.now))
    c.tree-item.is (omega arith) c.in_ok-value.ensures c.in_ok-push.ensures.ok c.loop-tree.invariant

pub list-returns-in_err-value : goal.list-returns-in_err-value
list-returns-in_err-value t c =
    let p = err_from_is_err_and c.from_residual.result c.from_residual.ensures.1 in
    let left = c.args.levels - 1 in
    let same = ap (λ (ts : List Json). items_reading left (items_view ts)) (sym c.deref-tree-items.ensures.value) in
    rw (p.1, p.2) (fault_passed_below view (λ (vs : List Val). vs) c.in_err-value.field-0.0 (reading left (json_view c.tree-item.result)) c.args.levels (λ n. items_reading n (items_view c.args.trees.now.items)) c.if-levels-eq0.false c.in_err-value.ensures
    (λ x refused. item_fails left c.deref-tree-items.result.now c.loop-tree.tree-index c.tree-item.result x c.loop-tree.items (items_reading left (items_view c.args.trees.now.items)) c.tree-item.is (omega arith) refused (same ∙ c.loop-tree.invariant)))

pub escaped-returns-in_default-tree : goal.escaped-returns-in_default-tree
escaped-returns-in_default-tree t c =
    let no : as_object (json_view c.in-Some.tree.now) ≡ None = search (rules, the_lemmas) in
    escape_other _ _ _ _ (sym c.values.ensures.rest ∙ c.in-Some.ensures.steps) no

pub escaped-returns-in_ok-fields-in-Object : goal.escaped-returns-in_ok-fields-in-Object
escaped-returns-in_ok-fields-in-Object t c =
    escape_object _ _ _ _ _ (sym c.values.ensures.rest ∙ c.in-Some.ensures.steps) c.in-Object.is ∙ object_made_ok _ _ c.in_ok-fields-in-Object.ensures

pub escaped-returns-in_err-fields-in-Object : goal.escaped-returns-in_err-fields-in-Object
escaped-returns-in_err-fields-in-Object t c =
    let p = err_from_is_err_and c.from_residual.result c.from_residual.ensures.1 in
    rw (p.1, p.2) (fault_passed (λ es. es) view _ _ _ c.in_err-fields-in-Object.ensures (λ x refused. escape_object _ _ _ _ _ (sym c.values.ensures.rest ∙ c.in-Some.ensures.steps) c.in-Object.is ∙ object_made_err _ x refused))

pub fields-returns-in_err-value : goal.fields-returns-in_err-value
fields-returns-in_err-value t c =
    let p = err_from_is_err_and c.from_residual.result c.from_residual.ensures.1 in
    rw (p.1, p.2) (fault_passed_below view (λ (es : Entries). es) c.in_err-value.field-0.0 (reading (c.args.levels - 1) (json_view c.in-Some.tree.now)) c.args.levels (λ n. members_reading n (members_view c.args.members.now.entries)) c.if-levels-eq0.false c.in_err-value.ensures
    (λ x refused. member_fails (c.args.levels - 1) c.args.members.now.entries c.loop-key.key-iterator c.next.new.self c.in-Some.key.now c.in-Some.tree.now x c.loop-key.doc c.in-Some.ensures.steps refused c.loop-key.invariant))

pub fields-returns : goal.fields-returns
fields-returns t c =
    below_some c.args.levels (λ n. members_reading n (members_view c.args.members.now.entries)) c.if-levels-eq0.false
    ∙ all_read (c.args.levels - 1) c.args.members.now.entries c.loop-key.key-iterator c.loop-key.doc c.in-None.ensures.steps.0 c.loop-key.invariant

pub fields-loop-key-init : goal.fields-loop-key-init
fields-loop-key-init t c =
    let gives = c.into_iter-key-iterator.ensures.into_iter_gives in
    none_read (c.args.levels - 1) c.args.members.now.entries c.into_iter-key-iterator.result c.new-doc.result gives.0 c.new-doc.ensures gives.5

pub fields-loop-key-preserved : goal.fields-loop-key-preserved
fields-loop-key-preserved t c =
    one_more_read (c.args.levels - 1) c.args.members.now.entries c.loop-key.key-iterator c.next.new.self c.in-Some.key.now c.in-Some.tree.now c.as_str.result.now (view c.in_ok-value.field-0) c.loop-key.doc c.put_field.new.doc
    c.in-Some.ensures.steps c.as_str.ensures.value c.in_ok-value.ensures c.in_ok-put_field.ensures c.loop-key.invariant

pub user-returns-in_default-next : goal.user-returns-in_default-next
user-returns-in_default-next t c =
    user_alone _ _ _ (sym c.values-trees.ensures.rest ∙ c.in-Some.ensures.steps ∙ ap (λ (more : List Json). c.in-Some.named.now ∷ more) c.in_default-next.ensures.steps.0)

pub user-returns-then-levels-eq0 : goal.user-returns-then-levels-eq0
user-returns-then-levels-eq0 t c =
    user_too_deep _ _ _ _ _ (sym c.values-trees.ensures.rest ∙ c.in-Some.ensures.steps ∙ ap (λ (more : List Json). c.in-Some.named.now ∷ more) c.in-Some-next.ensures.steps) c.if-levels-eq0.true

pub user-returns-in_err-name : goal.user-returns-in_err-name
user-returns-in_err-name t c =
    let p = err_from_is_err_and c.from_residual.result c.from_residual.ensures.1 in
    let below = user_below c.args.levels c.args.members.now.entries c.in-Some.named.now c.in-Some-next.tree.now c.next-2.new.self
    (sym c.values-trees.ensures.rest ∙ c.in-Some.ensures.steps ∙ ap (λ (more : List Json). c.in-Some.named.now ∷ more) c.in-Some-next.ensures.steps) c.if-levels-eq0.false in
    let inner = reading (c.args.levels - 1) (json_view c.in-Some-next.tree.now) in
    rw (p.1, p.2) (fault_passed (λ (n : List ℕ). n) view _ _ _ c.in_err-name.ensures (λ x refused. below ∙ ap (λ (r : Result (List ℕ) EjsonFault). user_made r inner) refused))

pub user-returns-in_err-value : goal.user-returns-in_err-value
user-returns-in_err-value t c =
    let p = err_from_is_err_and c.from_residual-in_err-value.result c.from_residual-in_err-value.ensures.1 in
    let below = user_below c.args.levels c.args.members.now.entries c.in-Some.named.now c.in-Some-next.tree.now c.next-2.new.self
    (sym c.values-trees.ensures.rest ∙ c.in-Some.ensures.steps ∙ ap (λ (more : List Json). c.in-Some.named.now ∷ more) c.in-Some-next.ensures.steps) c.if-levels-eq0.false in
    rw (p.1, p.2) (fault_passed view view _ _ _ c.in_err-value.ensures (λ x refused. below ∙ ap₂ user_made c.in_ok-name.ensures refused))

pub user-returns : goal.user-returns
user-returns t c =
    let below = user_below c.args.levels c.args.members.now.entries c.in-Some.named.now c.in-Some-next.tree.now c.next-2.new.self
    (sym c.values-trees.ensures.rest ∙ c.in-Some.ensures.steps ∙ ap (λ (more : List Json). c.in-Some.named.now ∷ more) c.in-Some-next.ensures.steps) c.if-levels-eq0.false in
    below ∙ ap₂ user_made c.in_ok-name.ensures c.in_ok-value.ensures ∙ ap (λ (v : Val). Ok v) (sym c.in_ok-user_of.ensures)
