-- Demand 3 holds of what a port shows: the proof of specs/PortTheorem.antt, claim by claim.
use Rattle.srt_group_traces.specs.Laws.Port.{new_begins, promised_step, port_base, port_moves_base, port_unbased, port_has_clerks_list, port_skips, ports_agree, short_port_is_fair}
use Rattle.srt_group_traces.specs.PortTheorem.{PortTheorem}

pub port_theorem : PortTheorem
port_theorem =
    record {
      begins = new_begins;
      grows = promised_step;
      base = port_base;
      moves = port_moves_base;
      unset = port_unbased;
      schedule = port_has_clerks_list;
      skips = port_skips;
      ports = ports_agree;
      short = short_port_is_fair;
    }
