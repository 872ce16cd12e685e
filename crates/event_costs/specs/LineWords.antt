-- The words of a line, as the reader holds them.
use Rattle.event_costs.specs.declared.line.CostWords.{CostWords}
use Rattle.event_costs.specs.CostText.{CostLine}

-- the words of a line, as the definitions know them
abbrev pub said_by : CostWords → CostLine
said_by words = record { event = words.event.now; cost = words.cost.now }
