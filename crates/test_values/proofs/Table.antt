-- Every row of the table computes to its value. Assumes nothing.
use mathlib.Core.Path.{refl}
use lib.Ieee.{to_bits, of_bits, of_fields, of_int, span, climb, size, odd, units, round, neg, is_nan, sum, add, sub, mul, div, lt, le, eq}
use Rattle.float.specs.Values.{abs_of, finite_of, signum_of, max_of, min_of}
use Rattle.float.specs.Sqrt.{isqrt, root_of, sqrt_of}
use Rattle.linesearch_trials.specs.Cubic.{interpolate_of}
use Rattle.neldermead_vertices.specs.Method.{beta, gamma, delta, displaced}
use Rattle.test_values.specs.Table.{Computes}

pub computes : Computes
unfolding to_bits of_bits of_fields of_int span climb size odd units round neg is_nan sum add sub mul div lt le eq abs_of finite_of signum_of max_of min_of isqrt root_of sqrt_of interpolate_of beta gamma delta displaced
computes = refl
