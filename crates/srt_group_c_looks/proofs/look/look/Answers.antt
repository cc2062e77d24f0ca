-- `look` meets its contract: what is given stands in the answer's row.
use Rattle.std.proofs.Common.{refl, rules}
use Rattle.srt_group_c_looks.proofs.look.look.Goals as goal

pub returns-clause-shows : goal.returns-clause-shows
returns-clause-shows g c =
    λ _ _.
    record {
      lent =
          record {
            group = c.read_group.result;
            members = c.args.members;
            pending = c.args.pending;
            waiting = c.args.waiting;
            history = c.args.history;
            sources = c.args.sources;
          };
      group = c.read_group.ensures;
      tables = refl;
      given = c.given.result;
      gave = search rules;
      said = c.put_given.ensures;
    }
