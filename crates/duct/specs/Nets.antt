-- A network in memory: it gives its links in order.
use Rattle.std.specs.Prelude.{◌≡◌, ℕ, ◌+◌, ◌==◌, ◌||◌, Bool, true, false, IsTrue, List, ◌∷◌, Option, Some, None, Result, Ok, Err, length, drop}
use Rattle.io_edge.specs.Memory.{last_call}
use Rattle.duct.specs.declared.network.NetFault.{NetFault}
use Rattle.duct.specs.declared.network.NetFault.TheVariants.{Failed, Memory}
use Rattle.duct.specs.declared.schedule.Schedule.{Schedule}
use Rattle.duct.specs.Schedules.{fails_after}
use Rattle.duct.specs.Lines.{Line}

pub record Net : Type 0 where
  pub links : List Line
  -- the numbers of the calls that are to fail, and how many calls there were
  pub listens : Schedule
  pub accepts : Schedule
  pub connects : Schedule
  pub given : ℕ
  pub faults : ℕ

abbrev pub new_net : List Line → List ℕ → List ℕ → List ℕ → Net
new_net links listens accepts connects = record {
  links = links;
  listens = record { failing = listens; calls = 0 };
  accepts = record { failing = accepts; calls = 0 };
  connects = record { failing = connects; calls = 0 };
  given = 0;
  faults = 0;
}

-- whether the next call is to fail
abbrev pub is_due : Schedule → Bool
is_due s = fails_after s.failing s.calls

abbrev pub counted : Schedule → Schedule
counted s = record s { calls = s.calls + 1 }

-- whether it has no link to give: none is left, or no further one can be counted
abbrev pub is_done : Net → Bool
is_done net = (length net.links == 0) || (net.given == last_call)

-- the first link is given, unless the call is to fail or there is none to give
abbrev pub Gives : Net → Bool → Option Line → Type 0
Gives net due (Some link) = (due ≡ false) × (is_done net ≡ false) × (net.links ≡ link ∷ drop 1 net.links)
Gives net due None = IsTrue (due || is_done net)

-- what is left behind a call that gave a link, or failed
abbrev pub net_gave : Net → Option Line → Net
net_gave net (Some link) = record net { links = drop 1 net.links; given = net.given + 1 }
net_gave net None = record net { faults = net.faults + 1 }

-- what a call that gives links answers; memory may be refused
abbrev pub NetAnswers : Net → Bool → Result Line NetFault → Type 0
NetAnswers net due (Ok link) = Gives net due (Some link)
NetAnswers net due (Err Failed) = Gives net due None
NetAnswers net due (Err Memory) = Unit {0}

abbrev pub net_accepted : Net → Result Line NetFault → Net
net_accepted net (Ok link) = net_gave (record net { accepts = counted net.accepts }) (Some link)
net_accepted net (Err Failed) = net_gave (record net { accepts = counted net.accepts }) None
net_accepted net (Err Memory) = net

abbrev pub net_connected : Net → Result Line NetFault → Net
net_connected net (Ok link) = net_gave (record net { connects = counted net.connects }) (Some link)
net_connected net (Err Failed) = net_gave (record net { connects = counted net.connects }) None
net_connected net (Err Memory) = net

-- a call that listens fails where it is to fail; memory may be refused
abbrev pub NetListens : {R : Type 0} → Net → Result R NetFault → Type 0
NetListens net (Ok _) = is_due net.listens ≡ false
NetListens net (Err Failed) = is_due net.listens ≡ true
NetListens net (Err Memory) = Unit {0}

abbrev pub net_listened : {R : Type 0} → Net → Result R NetFault → Net
net_listened net (Ok _) = record net { listens = counted net.listens }
net_listened net (Err Failed) = record net { listens = counted net.listens; faults = net.faults + 1 }
net_listened net (Err Memory) = net
