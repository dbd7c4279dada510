use Rattle.std.specs.Prelude.{if◌then◌else◌}
use Rattle.std.proofs.Common.{◌≤◌, length, Bool, Ok, Err, ap, sym, ◌∙◌, subst, arith}
use Rattle.map_model.specs.Maps.{IsSorted}
use Rattle.ejson_value.specs.Key.{key_cmp}
use Rattle.ejson_value.specs.Rows.{Rows}
use Rattle.collection_store.specs.State.{StoreState}
use Rattle.collection_store.specs.Outcome.{Outcome}
use Rattle.collection_store.specs.Limits.{bytes_of, max_documents, max_bytes, new_bytes}
use Rattle.collection_store.specs.Applied.{after}
use Rattle.collection_store.specs.declared.fault.OpFault.TheVariants.{Full}
use Rattle.collection_store.proofs.Sums.{new_bytes-le, not_full}
use Rattle.collection_store.proofs.store.Store.make_if_room.Goals as goal

pub returns-clause-gives : goal.returns-clause-gives
returns-clause-gives c =
    let rows = c.args.self.now.rows in
    let cs = c.args.changes.now in
    let is = ap (λ (s : StoreState). s.rows) c.self.view_is in
    let all_new = new_bytes-le rows cs (subst (IsSorted key_cmp) is c.known.ensures.by_key) c.requires.fit in
    let few : length (after rows cs) ≤ max_documents =
    omega (arith, c.requires.stays, c.len-documents.ensures, ap length is, c.if-documents-gt-MAX_DOCUMENTS.false) in
    let small : bytes_of (after rows cs) ≤ max_bytes = omega (arith, c.bytes_after-bytes.ensures.value, c.if-bytes-gt-MAX_BYTES.false) in
    let fits : new_bytes cs ≤ c.args.room = omega (arith, small, all_new, c.new_bytes.ensures, c.if-new_bytes-room.false) in
    ap (λ (b : Bool). let o : Outcome Rows = (if b then Err Full else Ok (after rows cs)) in o) (not_full (after rows cs) cs c.args.room few small fits)
    ∙ ap (λ (s : StoreState). let o : Outcome Rows = Ok s.rows in o) (sym c.in_ok-make.ensures.ok)
