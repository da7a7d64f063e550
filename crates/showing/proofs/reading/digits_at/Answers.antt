use Rattle.std.proofs.Common.{rules, ◌+◌, ◌-◌, take, drop, get_or}
use Rattle.std.specs.Prelude.{◌↔◌, IsTrue, EachIndex}
use Rattle.showing.specs.rules.Inputs.{is_digit}
use Rattle.showing.proofs.ReadLaws.{part-told}
use Rattle.showing.proofs.reading.digits_at.Goals as goal

pub returns : goal.returns
returns c =
    let a = c.args in
    part-told is_digit a.s.now a.at a.n c.requires c.all.result
    (let d : IsTrue c.all.result ↔ EachIndex (take (a.at + a.n - a.at) (drop a.at a.s.now)) (λ k. IsTrue (is_digit (get_or (take (a.at + a.n - a.at) (drop a.at a.s.now)) k 0))) = search rules in d)
