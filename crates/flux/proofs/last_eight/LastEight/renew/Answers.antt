-- `renew` keeps the sum: it loses what goes out and gains what comes in.
use Rattle.std.proofs.Common.{◌≡◌, ℕ, ◌+◌, ◌*◌, ◌%◌, ◌≤◌, ◌∙◌, subst, List, length, get_or, set, arith, length-set}
use Rattle.std.specs.List.{All, sum}
use Rattle.std.proofs.lemmas.List.Elements.{All-set}
use Rattle.std.proofs.lemmas.List.Sums.{sum_by-set, sum_by-le, get_or-le-sum_by}
use Rattle.flux.proofs.last_eight.LastEight.renew.Goals as goal

pub invariant_of-self : goal.invariant_of-self
invariant_of-self g c =
    let l : List ℕ = c.args.self.now.numbers in
    let k : ℕ = c.args.place % 8 in
    let part : get_or l k 0 ≤ sum l = get_or-le-sum_by (λ x. x) l k 0 (omega arith) in
    let next : sum (set l k c.args.number) + get_or l k 0 ≡ sum l + c.args.number = sum_by-set (λ x. x) l k c.args.number 0 (omega arith) in
    let most : All (λ x. x ≤ g.row.MOST) (set l k c.args.number) = All-set (λ x. x ≤ g.row.MOST) l k c.args.number c.requires c.args.self.now.most in
    let eight : length (set l k c.args.number) ≡ 8 = length-set l k c.args.number ∙ omega arith in
    let all : sum (set l k c.args.number) ≤ 8 * g.row.MOST =
    subst (λ (n : ℕ). sum (set l k c.args.number) ≤ n * g.row.MOST) eight (sum_by-le (λ x. x) g.row.MOST _ most) in
    record { eight = eight; summed = omega (arith, c.args.self.now.summed); most = most; within = omega (arith, c.args.self.now.summed) }
