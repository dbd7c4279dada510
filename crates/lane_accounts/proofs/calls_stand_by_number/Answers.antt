use Rattle.std.proofs.Common.{ap, sym, ◌∙◌}
use Rattle.session_model.specs.State.{State}
use Rattle.session_journal_laws.specs.Stands.{items_of}
use Rattle.lane_accounts.specs.StandingLaws.{standing_rise, blocking_last, begun_rise, begun_prefix}
use Rattle.lane_accounts.proofs.calls_stand_by_number.Goals as goal

pub returns : goal.returns
returns c = record {
  standing = λ taken C sent s m. standing_rise s.carried.app s.carried.number C (items_of taken s.carried) m.stands.fits;
  blocking = λ taken C sent s b m is.
      blocking_last s.carried.app s.carried.number C (items_of taken s.carried) m.stands.fits b
      (ap (λ (st : State). st.blocking) (sym m.stands.own) ∙ is);
  begun = begun_rise;
  longer = begun_prefix;
}
