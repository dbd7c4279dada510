-- What is kept of a world, as contracts see it.
use Rattle.world_laws.specs.World.{AWorld}
use Rattle.world_core.specs.declared.inside.Inside.{Inside}

abbrev pub seen : Inside → AWorld
seen a = record {
  app = a.machine.app;
  history = a.machine.history;
  opened = a.opened;
  conns = a.conns;
  present = a.present;
  busy = a.busy;
  settled = a.settled;
}
