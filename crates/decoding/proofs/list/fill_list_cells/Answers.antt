-- `decoding::list::fill_list_cells` meets its contract: the call at the network that was read. Assumes nothing.
use Rattle.std.proofs.Common.{rules, refl}
use Rattle.decoding.proofs.list.fill_list_cells.Goals as goal

pub returns : goal.returns
returns g c =
    record {
      of = c.args.lent;
      network = refl;
      rows = _;
      cols = _;
      values = _;
      room = search rules;
      answer = c.call-answer.result;
      new_rows = _;
      new_cols = _;
      new_values = _;
      by_call = c.call-answer.ensures;
      told = c.encode_list.ensures;
    }
