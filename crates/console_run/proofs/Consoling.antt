-- A script that its client ran is a console's.
use Rattle.std.specs.Prelude.{◌≡◌, ℕ, List, [], ◌++◌, slice_get, Option, None, refl}
use Rattle.std.proofs.Common.{ap, ap₂, sym, subst, ◌∙◌, arith}
use Rattle.std.proofs.lemmas.List.{append_assoc, append-nil}
use Rattle.app_model.specs.App.{App}
use Rattle.io_edge.specs.Outside.{Grows}
use Rattle.duct.specs.Calls.{Call, said_in}
use Rattle.client_core.specs.State.{Own}
use Rattle.client_script.specs.declared.line.Line.{Line}
use Rattle.client_script.specs.declared.end.ConsoleEnd.{ConsoleEnd}
use Rattle.client_script.specs.declared.end.ConsoleEnd.TheVariants as ended
use Rattle.client_script.specs.Course.{texts_said}
use Rattle.client_script.specs.Ends.{IsDone, Cuts, Ran}
use Rattle.console_run.specs.Speaking.{look_of, Does}
use Rattle.console_run.specs.Console.{begun, HasDone, Consoles}
use Rattle.console_run.proofs.Keeping.{keeping, same_course}

-- what is seen of the last state is seen of the client that keeps its texts, but for what waits
cuts_same : (texts : List (List ℕ)) (end : ConsoleEnd) (next : Option Line) (last : Own) (cut : List ℕ) → Cuts end next (look_of last) cut → Cuts end next (look_of (keeping texts last)) cut
cuts_same texts ended.WriteFault next last cut c = c
cuts_same texts ended.Done next last cut c = c
cuts_same texts (ended.ServerSent n) next last cut c = c
cuts_same texts ended.Version next last cut c = c
cuts_same texts ended.Closed next last cut c = c
cuts_same texts ended.LinkFault next last cut c = c
cuts_same texts ended.Memory next last cut c = c

done_same : (texts : List (List ℕ)) (end : ConsoleEnd) (last : Own) (script : List Line) (line : ℕ) (back : List (List ℕ)) → IsDone end (look_of last) script line back
    → HasDone end (keeping texts last) script line (back ++ last.client.waiting)
done_same texts ended.Done last script line back d = (d.0, d.1, d.2, ap₂ (λ a b. a ++ b) d.4 d.3)
done_same texts ended.WriteFault last script line back d = tt
done_same texts (ended.ServerSent n) last script line back d = tt
done_same texts ended.Version last script line back d = tt
done_same texts ended.Closed last script line back d = tt
done_same texts ended.LinkFault last script line back d = tt
done_same texts ended.Memory last script line back d = tt

module _ {L : Type 0} (steps_of : L → Call → L → Type 0) where
  pub consoles : (app : App) (script : List Line) (own : Own) (link : L) (held : Option (List ℕ)) (line : ℕ) (s' : Own) (link' : L) (held' : Option (List ℕ)) (end : ConsoleEnd) → own ≡ begun app
      → Ran look_of Does steps_of script 0 own link held None line s' link' held' end → Consoles steps_of app script link held link' held' end
  consoles app script own link held line s' link' held' end is ran =
      let P : Own → Type 0 = λ o. Ran look_of Does steps_of script 0 o link held None line s' link' held' end in
      let r : Ran look_of Does steps_of script 0 (begun app) link held None line s' link' held' end = subst P is ran in
      let c = same_course [] (begun app) r.steps r.last r.bytes r.goes in
      let texts = texts_said r.steps in
      let Q : Own → Type 0 = λ o. Cuts end (slice_get script line) (look_of o) r.cut in
      let D : Own → Type 0 = λ o. HasDone end o script line (r.back ++ r.last.client.waiting) in record {
        calls = r.calls;
        leads = r.leads;
        steps = r.steps;
        lost = r.lost;
        heard = r.heard;
        loses = r.loses;
        line = line;
        within = r.within;
        lines = sym r.lines;
        right = c.may;
        back = r.back ++ r.last.client.waiting;
        handed = ap (λ (o : Own). o.client.waiting) c.made_so ∙ ap (λ ts. ts ++ r.last.client.waiting) r.said ∙ append_assoc (said_in r.calls) r.back r.last.client.waiting;
        cut = r.cut;
        grows = subst (λ bs. Grows held held' (bs ++ r.cut)) (sym c.prints) r.grows;
        cuts = subst Q (sym c.made_so) (cuts_same texts end (slice_get script line) r.last r.cut r.cuts);
        refused = ap (λ (o : Own). o.client.broken) c.made_so ∙ r.refused;
        failed = ap (λ (o : Own). o.client.is_failed) c.made_so ∙ r.failed;
        closed = r.closed;
        done = subst D (sym c.made_so) (done_same texts end r.last script line r.back r.done);
      }

  -- where nothing was done for want of memory
  pub no_console : (app : App) (script : List Line) (link : L) (held : Option (List ℕ)) → Consoles steps_of app script link held link held ended.Memory
  no_console app script link held = record {
    calls = [];
    leads = refl;
    steps = [];
    lost = [];
    heard = refl;
    loses = tt;
    line = 0;
    within = omega arith;
    lines = refl;
    right = tt;
    back = (begun app).client.waiting;
    handed = refl;
    cut = [];
    grows = λ now same. (now, same, append-nil now);
    cuts = refl;
    refused = refl;
    failed = refl;
    closed = refl;
    done = tt;
  }
