use Rattle.std.proofs.Common.{◌≡◌, ◌++◌, ap, sym, ◌∙◌, ◌∷◌, arith, refl, ℕ, Vec, Global, true, false, Some}
use Rattle.checking.specs.Input.{lines_in, is_blank}
use Rattle.checking.specs.Output.{bytes_of}
use Rattle.checking.specs.WalkLaws.{read_behind_blank, bad_behind_blank, read_with, bad_with}
use Rattle.revived_client.specs.State.{RevivedState}
use Rattle.reviving.specs.Run.{lines_of, all_written}
use Rattle.reviving.specs.Lines.{line_of}
use Rattle.reviving.proofs.Steps.{written_line}
use Rattle.reviving.proofs.run.run_lines.Goals.{then-not-is_blank+in_ok-read+in-Some+in_ok-act, else-not-is_blank}
use Rattle.reviving.proofs.run.run_lines.Goals as goal

pub loop-rest-preserved : goal.loop-rest-preserved
loop-rest-preserved c =
    let all = lines_in c.loop-rest.rest.now in
    let line = c.first_line.result.0.now in
    let more = lines_in c.first_line.result.1.now in
    let before = c.loop-rest.output.items in
    let whole = c.args.output.now.items ++ bytes_of (all_written c.args.client.now (lines_of (lines_in c.args.lines.now))) in
    let is : all ≡ line ∷ more = c.first_line.ensures.lines in
    elim c.if-not-is_blank.branch [
      | then-not-is_blank+in_ok-read+in-Some+in_ok-act w ↦
          let filled : is_blank line ≡ false = sym c.is_blank.ensures ∙ w.if-not-is_blank.true in
          let reads : line_of line ≡ Some w.in-Some.read = sym w.in_ok-read.ensures ∙ w.in-Some.is in
          record {
            written =
                ap (λ (o : Vec ℕ Global). o.items ++ bytes_of (all_written c.if-not-is_blank.client (lines_of more))) w.output-is
                ∙ (ap (λ (v : RevivedState). w.act.new.output.items ++ bytes_of (all_written v (lines_of more))) w.client-is
                ∙ written_line c.loop-rest.client w.act.new.client w.act.new.output.items before whole (lines_of all) (lines_of more) w.in-Some.read
                (read_with line_of all line more (Some w.in-Some.read) is filled reads) w.in_ok-act.ensures.client w.in_ok-act.ensures.written c.loop-rest.invariant.written);
            bad = sym (bad_with line_of c.loop-rest.number all line more (Some w.in-Some.read) is filled reads) ∙ c.loop-rest.invariant.bad;
            number = omega (arith, c.loop-rest.invariant.number, c.first_line.ensures.shorter);
          }
      | else-not-is_blank w ↦
          let blank : is_blank line ≡ true = sym c.is_blank.ensures ∙ w.if-not-is_blank.false in
          record {
            written =
                ap (λ (o : Vec ℕ Global). o.items ++ bytes_of (all_written c.if-not-is_blank.client (lines_of more))) w.output-is
                ∙ (ap (λ (v : RevivedState). before ++ bytes_of (all_written v (lines_of more))) w.client-is
                ∙ (ap (λ es. before ++ bytes_of (all_written c.loop-rest.client es)) (sym (read_behind_blank line_of all line more is blank))
                ∙ c.loop-rest.invariant.written));
            bad = sym (bad_behind_blank line_of c.loop-rest.number all line more is blank) ∙ c.loop-rest.invariant.bad;
            number = omega (arith, c.loop-rest.invariant.number, c.first_line.ensures.shorter);
          }
    ]
