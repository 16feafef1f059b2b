-- All that is demanded, of our calls.
--
--   ours-meets
--
-- Assumes nothing.
use Rattle.demands.specs.Machine.{ours}
use Rattle.demands.specs.Demands.{Demands}
use Rattle.demands.proofs.First.{demand-1}
use Rattle.demands.proofs.Second.{demand-2}
use Rattle.demands.proofs.Third.{demand-3}
use Rattle.demands.proofs.Followers.{keeps-table}
use Rattle.demands.proofs.Cleanness.{stays-clean}

pub ours-meets : Demands ours
ours-meets = record { first = demand-1; second = demand-2; third = demand-3; table = keeps-table; clean = stays-clean }
