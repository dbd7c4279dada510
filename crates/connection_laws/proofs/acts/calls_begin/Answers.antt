use Rattle.connection_laws.specs.BeginningLaws.{begin_makes, begin_begun, begin_refused}
use Rattle.connection_laws.specs.BeginningLaws.{begin_none, status_now}
use Rattle.connection_laws.proofs.acts.calls_begin.Goals as goal

pub returns : goal.returns
returns c = record {
  begun = λ app name history old b seed next result p blocks there run free same gives. begin_makes app name history old p b blocks there run free seed same next result gives;
  none = begin_none;
  runs = λ app name history old b p blocks run. begin_begun app name history old p b blocks run;
  refused = λ app name history old b p blocks kept. begin_refused app name history old p b blocks kept;
  now = status_now;
}
