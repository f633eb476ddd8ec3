use Rattle.unroller.proofs.unrolling.all_codes.Goals as goal

pub returns : goal.returns
returns g c n e o noted is live = record {
  of_rows = c.in_ok-codes.codes.items;
  are = c.in_ok-codes.ensures n e o noted is live;
  is = c.in_ok-add_codes.ensures;
}
