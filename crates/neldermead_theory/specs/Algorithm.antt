-- Nelder and Mead's simplex with the coefficients of Gao and Han (2012), in direct style: `nelder_mead` of neldermead.rs over lists of n coordinates. The Rust's lines stand as
-- comments, `..` for what is left out of them. Definitions only.
use Rattle.std.specs.Prelude.{ℕ, suc, ◌-◌, Bool, false, not, ◌&&◌, ◌||◌, cond, leb, eqb, length, get_or, Float}
use mathlib.Core.List.{List, [], ◌∷◌, ◌++◌, map, foldl}
use Rattle.std.specs.Float.{inf}
use Rattle.std.specs.Float.Ieee.{neg, lt, le}
use Rattle.float.specs.Binary64.{◌⊖◌, ◌⊗◌, plus_zero}
use Rattle.float.specs.Values.{abs_of, finite_of, max_of}
use Rattle.vector.specs.Lists.{addition, quotient, difference, inf_norm, all_finite, towards as between, shrunk}
use Rattle.protocol.specs.declared.SimplexOptions.{SimplexOptions}
use Rattle.protocol.specs.declared.Termination.{Termination}
use Rattle.protocol.specs.declared.Termination.TheVariants.{SimplexTolerance, ObjectiveResolution}
use Rattle.protocol.specs.Protocol.{read_of}
use Rattle.protocol.specs.Ask.{Ask, finish, ask_value, ◌>>=◌}
use Rattle.protocol.specs.Rounds.{Ending, at_head, fails, Verdict, go_on, stop, restart, Rounds}
use Rattle.neldermead_vertices.specs.declared.Vertex.{Vertex}
use Rattle.neldermead_vertices.specs.Order.{in_order}
use Rattle.neldermead_vertices.specs.Method.{real, alpha, beta, gamma, delta, displaced, resolution, better}

-- ---- the points of a new simplex

-- for i in 0..n { let mut v = seed.clone(); .. v[i] += if v[i] < 0.0 { -step } else { step }; simplex.push(v); }: the seed with each coordinate displaced in its turn; the
-- coordinates of `front` are passed
unfoldable pub corners : Float → List Float → List Float → List (List Float)
unfolding displaced
corners initial front [] = []
corners initial front (v ∷ vs) = (front ++ (displaced initial v ∷ vs)) ∷ corners initial (front ++ (v ∷ [])) vs

-- ---- values asked for

-- c.value(&x)
abbrev pub ask_vertex : List Float → Ask Vertex
ask_vertex x = ask_value read_of x >>= λ v. finish (record { x = x; f = v })

-- simplex.iter().map(|v| c.value(v)).collect()
unfoldable pub ask_vertices : List (List Float) → Ask (List Vertex)
unfolding ◌>>=◌
ask_vertices [] = finish []
ask_vertices (x ∷ xs) =
    ask_vertex x >>= λ u.
    ask_vertices xs >>= λ us.
    finish (u ∷ us)

-- ---- the head of a round: the simplex in order, the best of all runs, and what has been done

pub record SimplexPosition : Type 0 where
  pub options : SimplexOptions
  pub n : ℕ
  pub iterations : ℕ
  -- runs_done
  pub runs : ℕ
  pub best : Vertex
  pub vertices : List Vertex

-- simplex[k] and fx[k]
abbrev pub vertex : SimplexPosition → ℕ → Vertex
vertex p k = get_or p.vertices k p.best

-- the next head, with the vertices us: order.sort_by(|&a, &b| fx[a].total_cmp(&fx[b])); .. if fx[0] < best_f { best_f = fx[0]; best_x.copy_from_slice(&simplex[0]); }
unfoldable pub arrive : SimplexPosition → List Vertex → SimplexPosition
unfolding better
arrive p us =
    let vs = in_order us in
    record { options = p.options; n = p.n; iterations = p.iterations; runs = p.runs; best = better (get_or vs 0 p.best) p.best; vertices = vs }

-- all but the last
abbrev pub but_last : List Vertex → List Vertex
but_last [] = []
but_last (u ∷ []) = []
but_last (u ∷ w ∷ ws) = u ∷ but_last (w ∷ ws)

-- all but the first
abbrev pub others : List Vertex → List Vertex
others [] = []
others (u ∷ us) = us

-- simplex[n] = xr; fx[n] = fr; and so with xe, xc and xcc
abbrev pub replaced : SimplexPosition → Vertex → Ending SimplexPosition
replaced p u = at_head (arrive p (but_last p.vertices ++ (u ∷ [])))

-- ---- a new simplex about a point

-- !fx.iter().all(|v| !v.is_finite())
abbrev pub any_finite : List Vertex → Bool
any_finite [] = false
any_finite (u ∷ us) = finite_of u.f || any_finite us

-- refusal 20 where all of a simplex just built are non-finite, in whichever run
abbrev pub built : SimplexPosition → List Vertex → Ask (Ending SimplexPosition)
built p us = finish (cond (any_finite us) (at_head (arrive p us)) (fails 20 0))

abbrev pub build : SimplexPosition → List Float → Ask (Ending SimplexPosition)
build p x = ask_vertices (x ∷ corners p.options.step [] x) >>= built p

-- ---- a round

-- let mut cen = vec![0.0; n]; for v in &simplex[..n] { .. *ci += vi; .. } .. *ci /= nf;
unfoldable pub centroid : SimplexPosition → List Float
centroid p = quotient (foldl (λ c u. addition c u.x) (map (λ v. plus_zero) (vertex p 0).x) (but_last p.vertices)) (real p.n)

-- let towards = |coef: f64| .. ci + coef * (ci - wi)
abbrev pub towards : SimplexPosition → Float → List Float
towards p coef = between (centroid p) (vertex p p.n).x coef

-- for j in 1..=n { .. *vi = bi + delta * (*vi - bi); .. fx[j] = c.value(&simplex[j]); }: each vertex but the best drawn to it
abbrev pub shrink : SimplexPosition → Ask (Ending SimplexPosition)
shrink p = ask_vertices (map (λ u. shrunk (vertex p 0).x u.x (delta p.options p.n)) (others p.vertices)) >>= λ us. finish (at_head (arrive p (vertex p 0 ∷ us)))

-- let xe = towards(alpha * beta); let fe = c.value(&xe); if fe < fr { simplex[n] = xe; .. } else { simplex[n] = xr; .. }
abbrev pub expand : SimplexPosition → Vertex → Ask (Ending SimplexPosition)
expand p r = ask_vertex (towards p (alpha ⊗ beta p.options p.n)) >>= λ e. finish (replaced p (cond (lt e.f r.f) e r))

-- let xc = towards(alpha * gamma); let fc = c.value(&xc); if fc <= fr { simplex[n] = xc; .. } else { shrink = true; }
abbrev pub contract_outside : SimplexPosition → Vertex → Ask (Ending SimplexPosition)
contract_outside p r = ask_vertex (towards p (alpha ⊗ gamma p.options p.n)) >>= λ c. cond (le c.f r.f) (finish (replaced p c)) (shrink p)

-- let xcc = towards(-gamma); let fcc = c.value(&xcc); if fcc < fx[n] { simplex[n] = xcc; .. } else { shrink = true; }
abbrev pub contract_inside : SimplexPosition → Ask (Ending SimplexPosition)
contract_inside p = ask_vertex (towards p (neg (gamma p.options p.n))) >>= λ c. cond (lt c.f (vertex p p.n).f) (finish (replaced p c)) (shrink p)

-- if fr < fx[0] { .. } else if fr < fx[n - 1] { simplex[n] = xr; .. } else { .. if fr < fx[n] { .. } else { .. } .. }
abbrev pub reflected : SimplexPosition → Vertex → Ask (Ending SimplexPosition)
reflected p r =
    cond (lt r.f (vertex p 0).f) (expand p r)
    (cond (lt r.f (vertex p (p.n - 1)).f) (finish (replaced p r))
    (cond (lt r.f (vertex p p.n).f) (contract_outside p r) (contract_inside p)))

-- iterations += 1
abbrev pub iterated : SimplexPosition → SimplexPosition
iterated p = record { options = p.options; n = p.n; iterations = suc p.iterations; runs = p.runs; best = p.best; vertices = p.vertices }

-- let xr = towards(alpha); let fr = c.value(&xr);
abbrev pub round : SimplexPosition → Ask (Ending SimplexPosition)
round p = ask_vertex (towards p alpha) >>= reflected (iterated p)

-- ---- the tests at the head

-- the largest distance of a vertex from the best one: simplex[1..] .. .map(|(a, b)| (a - b).abs()) .fold(0.0, f64::max) .. .fold(0.0, f64::max)
unfoldable pub size : SimplexPosition → Float
size p = foldl (λ m u. max_of m (inf_norm (difference u.x (vertex p 0).x))) plus_zero (others p.vertices)

-- size <= x_stop && spread.abs() <= f_stop
unfoldable pub converged : SimplexPosition → Bool
unfolding size resolution
converged p =
    le (size p) (max_of p.options.xtol (resolution (inf_norm (vertex p 0).x)))
    && le (abs_of ((vertex p p.n).f ⊖ (vertex p 0).f)) (max_of p.options.ftol (resolution (abs_of (vertex p 0).f)))

-- ObjectiveResolution where opts.f_tol < f_resolution, else SimplexTolerance
unfoldable pub reason : SimplexPosition → Termination
unfolding resolution
reason p = cond (lt p.options.ftol (resolution (abs_of (vertex p 0).f))) ObjectiveResolution SimplexTolerance

-- runs_done += 1
abbrev pub rerun : SimplexPosition → SimplexPosition
rerun p = record { options = p.options; n = p.n; iterations = p.iterations; runs = suc p.runs; best = p.best; vertices = p.vertices }

-- a run that is done: runs_done += 1; if runs_done > opts.restarts { break; } seed.copy_from_slice(&best_x);
abbrev pub tests : SimplexPosition → Verdict SimplexPosition
tests p = cond (converged p) (cond (leb p.options.restarts p.runs) (stop (reason p)) (restart (build (rerun p) p.best.x))) go_on

-- ---- the start, with its refusals in order: 4, 8, 9, 12; 2 comes before them, as in every fit

-- t >= 0.0 && t.is_finite()
abbrev pub tolerance : Float → Bool
tolerance t = le plus_zero t && finite_of t

-- t > 0.0 && t.is_finite()
abbrev pub positive_finite : Float → Bool
positive_finite t = lt plus_zero t && finite_of t

-- best_x = x0, best_f = infinity, and no simplex yet
abbrev pub nowhere : SimplexOptions → List Float → SimplexPosition
nowhere o x = record { options = o; n = length x; iterations = 0; runs = 0; best = record { x = x; f = inf false }; vertices = [] }

abbrev pub opening : SimplexOptions → List Float → Ask (Ending SimplexPosition)
opening o x =
    cond (not (tolerance o.xtol)) (finish (fails 4 1))
    (cond (not (tolerance o.ftol)) (finish (fails 4 2))
    (cond (not (positive_finite o.step)) (finish (fails 8 0))
    (cond (eqb (length x) 0) (finish (fails 9 0))
    (cond (not (all_finite x)) (finish (fails 12 1))
    (build (nowhere o x) x)))))

abbrev pub nelder_mead : Rounds SimplexOptions
nelder_mead = record { Position = SimplexPosition; x = λ p. p.best.x; f = λ p. p.best.f; iterations = λ p. p.iterations; opening = opening; tests = tests; round = round }
