use Rattle.std.specs.List.{list_any}
use Rattle.std.proofs.Common.{◌≡◌, ℕ, ◌<◌, ◌≤◌, ◌+◌, List, length, take, true, false, Vec, Global, ap, sym, ◌∙◌, below_more, arith}
use Rattle.app_model.specs.Fields.{leads_to}
use Rattle.app_model.proofs.PathLaws.{same_path, among, found_prefix, no_prefix, NoneBelow}
use Rattle.app_model.proofs.seen.Seen.has_prefix.Goals as goal

pub returns-then-contains : goal.returns-then-contains
returns-then-contains c =
    let q = take c.loop-end.end c.args.path.now in
    let keys = c.self.inside.paths.keys in
    let found : list_any (λ p. same_path q p) c.args.self.now ≡ true = ap (λ ps. list_any (λ p. same_path q p) ps) (sym c.self.view_is) ∙ (sym (among (λ (v : Vec (List ℕ) Global). v.items) q keys) ∙ (sym c.contains.ensures ∙ c.if-contains.true)) in
    sym (found_prefix c.args.self.now c.args.path.now c.loop-end.end found)

pub loop-end-preserved : goal.loop-end-preserved
loop-end-preserved c =
    let q = take c.loop-end.end c.args.path.now in
    let keys = c.self.inside.paths.keys in
    let none : list_any (λ p. same_path q p) c.args.self.now ≡ false = ap (λ ps. list_any (λ p. same_path q p) ps) (sym c.self.view_is) ∙ (sym (among (λ (v : Vec (List ℕ) Global). v.items) q keys) ∙ (sym c.contains.ensures ∙ c.if-contains.false)) in
    below_more (λ n. list_any (λ p. same_path (take n c.args.path.now) p) c.args.self.now ≡ false) c.loop-end.end c.loop-end.invariant none

pub returns : goal.returns
returns c =
    let none : NoneBelow c.args.self.now c.args.path.now (length c.args.path.now + 1) = λ n below. let within : n < c.loop-end.end = omega (arith, below, c.loop-end-test.false) in c.loop-end.invariant n within in
    sym (no_prefix c.args.self.now c.args.path.now none)
