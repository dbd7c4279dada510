use Rattle.std.proofs.Common.{Some}
use Rattle.kept_document.specs.Held.{KeptDoc, alone, IsKeptAfter}
use Rattle.kept_document.proofs.Alone.{two_is, two_held}
use Rattle.kept_document.proofs.shared.Shared.of_two.Goals as goal

made_of : goal.After-len-len → KeptDoc
made_of c = record { publishers = c.in_ok-publishers.publishers.items; fields = c.in_ok-fields.fields.entries }

is_two : (c : goal.After-len-len) → IsKeptAfter c.args.second (Some c.args.added.now) (alone c.args.first c.args.doc.now) (made_of c)
unfolding made_of
is_two c = two_is c.args.first c.args.doc.now c.args.second c.args.added.now (made_of c) c.in_ok-publishers.ensures.items c.in_ok-fields.ensures

pub invariant_of-result : goal.invariant_of-result
unfolding made_of
invariant_of-result c = two_held c.args.first c.args.doc.now c.args.second c.args.added.now (made_of c) c.requires c.known.ensures.names c.len-len.ensures.ordered c.in_ok-publishers.ensures.items (is_two c)

pub returns : goal.returns
unfolding made_of
returns c = is_two c
