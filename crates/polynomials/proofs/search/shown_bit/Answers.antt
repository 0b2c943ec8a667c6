-- Too few held shares show nothing; else the halves show what there is to show.
use Rattle.std.proofs.Common.{◌≡◌, Bool, None, Option, sym, subst, arith}
use Rattle.basis.specs.Counts.{has}
use Rattle.polynomials.specs.Polynomials.{at}
use Rattle.polynomials.specs.Shares.{shown_of, Exact}
use Rattle.polynomials.proofs.Choosing.{few_show_none, shown_exact, one_value, one_bit}
use Rattle.polynomials.proofs.search.shown_bit.Goals as goal

pub returns-then-size_in-quorum_size : goal.returns-then-size_in-quorum_size
returns-then-size_in-quorum_size c =
    let share = at c.args.shares.now in
    let is : None ≡ shown_of c.args.n c.args.held share = sym (few_show_none c.args.n c.args.held share c.requires (omega (arith, c.size_in.ensures, c.quorum_size.ensures, c.if-size_in-quorum_size.true))) in
    record { value = is; exact = subst (λ (o : Option Bool). Exact c.args.n (has c.args.held) share o) (sym is) (shown_exact c.args.n c.args.held share c.requires); one_value = one_value; one_bit = one_bit }

pub returns-else-size_in-quorum_size : goal.returns-else-size_in-quorum_size
unfolding shown_of
returns-else-size_in-quorum_size c =
    let share = at c.args.shares.now in
    let is : c.search_halves.result ≡ shown_of c.args.n c.args.held share = c.search_halves.ensures in
    record { value = is; exact = subst (λ (o : Option Bool). Exact c.args.n (has c.args.held) share o) (sym is) (shown_exact c.args.n c.args.held share c.requires); one_value = one_value; one_bit = one_bit }
