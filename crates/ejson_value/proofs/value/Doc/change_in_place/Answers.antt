use Rattle.std.proofs.Common.{◌≡◌, true, IfOk, subst, sym}
use Rattle.ejson_value.specs.Fields.{edited}
use Rattle.ejson_value.proofs.Built.{no_fields}
use Rattle.ejson_value.proofs.value.Doc.change_in_place.Goals as goal

pub returns-then-is_empty-clause-put : goal.returns-then-is_empty-clause-put
returns-then-is_empty-clause-put c =
    subst (λ names. IfOk c.put_in_place.result (λ put. put ≡ true → c.put_in_place.new.self ≡ edited c.args.self.now c.args.fields.now names))
    (no_fields c.args.cleared.now (sym c.if-is_empty.ensures)) c.put_in_place.ensures.put
