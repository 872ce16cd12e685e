-- The verdicts exclude each other.
use Rattle.fault_verdicts.specs.Verdicts.{VerdictsAreApart}

pub verdicts_are_apart : VerdictsAreApart
verdicts_are_apart net log n e = record {
  possible_not_certain = λ possible certain. let other = possible.not_everywhere in other.without (certain other.k other.word other.order other.best);
  possible_not_excluded = λ possible excluded. let other = possible.somewhere in excluded other.k other.word other.order other.best other.has;
  certain_not_excluded = λ k word order best certain excluded. excluded k word order best (certain k word order best);
}
