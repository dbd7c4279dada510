use Rattle.std.proofs.Common.{[], Some, None, is_some, refl, sym, ap}
use Rattle.ejson_value.specs.Key.{name_order}
use Rattle.kept_document.proofs.KeptAfter.{none_of}
use Rattle.kept_document.proofs.Puts.{put_or, put_others}
use Rattle.kept_document.proofs.fields.put_or_clear.Goals as goal

pub returns-then-is_empty-clause-claims : goal.returns-then-is_empty-clause-claims
returns-then-is_empty-clause-claims c = put_or name_order c.args.fields.now.entries c.remove.new.self.entries c.args.name.now None c.remove.ensures.updates.0 [] c.args.claims (none_of c.args.claims (sym c.if-is_empty.ensures))

pub returns-then-is_empty-clause-others : goal.returns-then-is_empty-clause-others
returns-then-is_empty-clause-others c = put_others name_order c.args.fields.now.entries c.remove.new.self.entries c.args.name.now None c.remove.ensures.updates.0

pub returns-in-Some-clause-claims : goal.returns-in-Some-clause-claims
returns-in-Some-clause-claims c = put_or name_order c.args.fields.now.entries (c.get_mut.follows.lender c.args.claims).entries c.args.name.now (Some c.args.claims) ((c.get_mut.follows.holds c.args.claims).3 (ap is_some (sym c.in-Some.ensures.value))).0 [] c.args.claims refl

pub returns-in-Some-clause-others : goal.returns-in-Some-clause-others
returns-in-Some-clause-others c = put_others name_order c.args.fields.now.entries (c.get_mut.follows.lender c.args.claims).entries c.args.name.now (Some c.args.claims) ((c.get_mut.follows.holds c.args.claims).3 (ap is_some (sym c.in-Some.ensures.value))).0
