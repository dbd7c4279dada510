use Rattle.std.proofs.Common.{Bool, ◌∙◌, rules, arith}
use Rattle.std.proofs.lemmas.Bool.Decides.{nat_tests}
use Rattle.std.proofs.lemmas.Iterator.{YieldsList-from_slice}
use Rattle.std.proofs.lemmas.Iterator.Search.{all_from_yields_List}
use Rattle.ejson_value.specs.View.{views}
use Rattle.selector_match.specs.Holds.{has_equal}
use Rattle.selector_match.specs.Asked.{subject_branches}
use Rattle.selector_match.specs.Operands.{met}
use Rattle.selector_match.proofs.Rising.{length-views}
use Rattle.selector_match.proofs.Marks.{marked_as, has_equal-is, all_marked}
use Rattle.selector_match.proofs.marking.are_all_marked.Goals as goal

pub returns : goal.returns
returns c =
    let operands = views c.args.rising.now in
    let bs = subject_branches c.args.subject in
    let old = c.args.marks.now in
    let new = c.mark_subject.new.marks in
    all_from_yields_List (λ (b : Bool). b) _ _ c.all.result c.all.ensures.ran (YieldsList-from_slice new cc) (λ x b q k. search (rules, nat_tests))
    ∙ all_marked operands (λ v. has_equal v bs) old new (omega (arith, c.requires.as_many, length-views c.args.rising.now)) (λ k h. c.requires.unmarked k (omega (arith, h, c.requires.as_many, length-views c.args.rising.now)))
    (marked_as operands (λ v. met v bs) (λ v. has_equal v bs) old new (λ v. has_equal-is v bs) c.mark_subject.ensures)
