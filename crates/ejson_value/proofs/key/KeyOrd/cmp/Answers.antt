use Rattle.std.proofs.Common.{sym, ◌∙◌}
use Rattle.std.specs.Cmp.Lexicographic.{texts_ties}
use Rattle.ejson_value.proofs.Words.{tied_first, decided_first}
use Rattle.ejson_value.proofs.key.KeyOrd.cmp.Goals as goal

pub returns-then-eq : goal.returns-then-eq
returns-then-eq c =
    let ties = texts_ties c.args.self.now.collection c.args.other.now.collection in
    c.cmp.ensures ∙ tied_first _ _ (sym ties ∙ sym c.eq.ensures ∙ c.if-eq.true)

pub returns : goal.returns
returns c =
    let ties = texts_ties c.args.self.now.collection c.args.other.now.collection in
    c.cmp-2.ensures ∙ decided_first _ _ (sym ties ∙ sym c.eq.ensures ∙ c.if-eq.false)
