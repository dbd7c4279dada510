use Rattle.std.proofs.Common.{false, refl}
use Rattle.lane_accounts.specs.EventsLaws.{true_taken, true_by_message, true_loaded, true_advanced, true_fed, true_learnt, true_by_refusal, true_sent}
use Rattle.lane_accounts.proofs.accounts_follow_sessions.Goals as goal

pub returns : goal.returns
returns c = record {
  takes = λ taken C sent old new has_begun t m e begun marked made p. true_taken begun marked made has_begun taken C sent old new m t e p;
  handles = λ taken C sent old new has_begun m e begun marked made p. true_by_message begun marked made has_begun taken C sent old new m e p;
  loads = λ taken C sent old new has_begun sub place rows m e begun marked made p.
      true_loaded begun marked made has_begun taken C sent old new m sub place rows e p;
  advances = λ taken C sent old new has_begun sub from count changes m e begun marked made p.
      true_advanced begun marked made has_begun taken C sent old new m sub from count changes e p;
  feeds = λ taken C sent old new has_begun sub count news m e begun marked made p.
      true_fed begun marked made has_begun taken C sent old new m sub count news e p;
  learns = λ taken C sent old new has_begun k status m e own begun marked made p.
      true_learnt begun marked made has_begun taken C sent old new m k status e own p;
  refuses = λ taken C sent old new k place m e begun marked made p. true_by_refusal begun marked made false taken C sent old new m k place refl e p;
  sends = λ taken C sent old new has_begun o m e begun marked made p. true_sent begun marked made has_begun taken C sent old new m o e p;
}
