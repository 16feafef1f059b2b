-- All that is demanded of an adapter, of any machine: the three demands, the table of followed addresses, the rooms that hold no group.
--
--   Demands m
use Rattle.demands.specs.Machine.{Machine}
use Rattle.demands.specs.Demand1.{Demand1}
use Rattle.demands.specs.Demand2.{Demand2}
use Rattle.demands.specs.Demand3.{Demand3}
use Rattle.demands.specs.Table.{KeepsTable}
use Rattle.demands.specs.Clean.{StaysClean}

pub record Demands (m : Machine) : Type 0 where
  pub first : Demand1 m
  pub second : Demand2 m
  pub third : Demand3 m
  pub table : KeepsTable m
  pub clean : StaysClean m
