-- Lists of answers that the code's definitions compute to their replies, and that meet the hypotheses of what is claimed of every list: differences at 1, a search on x² from 1, and 01's
-- sample where both vertices are told +infinity, which ends with 20. Definitions and statements only.
use Rattle.std.specs.Prelude.{ℕ, ◌≡◌, true, List, [], ◌∷◌, Float}
use Rattle.float.specs.Binary64.{bits}
use Rattle.protocol.specs.declared.Kind.TheVariants.{Value, Gradient}
use Rattle.protocol.specs.Protocol.{Answer, SearchResult, searched, differenced, Reply, ended, refused}
use Rattle.protocol.specs.Dialogue.{GivenF64s, run, NotRefused}
use Rattle.optim_start.specs.Start.{differences_of}
use Rattle.optim_theory.specs.Engine.{code}
use Rattle.optim_theory.specs.Examples.{asks, tells, zero, half, one, one_half, two, sample}
use Rattle.optim_theory.specs.Follows.{differences_run}
use Rattle.optim_theory.specs.Search.{SearchStart, search_code, code_run}

-- told 2 at 1+c and 1 at 1-c
abbrev pub at_one : List Float
at_one = bits one ∷ []

abbrev pub slope_answers : List Answer
slope_answers = tells 1 Value two ∷ tells 2 Value one ∷ []

-- 1 over the computed difference of the two
abbrev pub slope_replies : List Reply
slope_replies = asks 1 Value 0x3FF0_0006_597F_A94F ∷ asks 2 Value 0x3FEF_FFF3_4D00_AD61 ∷ ended (differenced (bits 0x40F4_28A2_F98D_CA0A ∷ [])) ∷ []

-- along -2 from 1, where x² is 1 and its gradient 2, with the first step 0.5: c1 1e-4, c2 0.9, step_max 1e10, max_evals 25
abbrev pub along : SearchStart
along =
    record {
      x = bits one ∷ [];
      d = bits 0xC000_0000_0000_0000 ∷ [];
      f = bits one;
      g = bits two ∷ [];
      step = bits half;
      options = record { c1 = bits 0x3F1A_36E2_EB1C_432D; c2 = bits 0x3FEC_CCCC_CCCC_CCCD; stepmax = bits 0x4202_A05F_2000_0000; evals = 25 };
      gradients = true;
    }

abbrev pub along_answers : List Answer
along_answers = tells 1 Value zero ∷ tells 2 Gradient zero ∷ []

abbrev pub along_result : SearchResult
along_result = record { success = true; step = bits half; f = bits zero; x = bits zero ∷ []; gradient = bits zero ∷ []; trials = 1 }

abbrev pub along_replies : List Reply
along_replies = asks 1 Value zero ∷ asks 2 Gradient zero ∷ ended (searched along_result) ∷ []

abbrev pub infinity : ℕ
infinity = 0x7FF0_0000_0000_0000

abbrev pub infinite_answers : List Answer
infinite_answers = tells 1 Value infinity ∷ tells 2 Value infinity ∷ tells 3 Value one ∷ []

abbrev pub infinite_replies : List Reply
infinite_replies = asks 1 Value one ∷ asks 2 Value one_half ∷ refused 20 0 ∷ refused 15 0 ∷ []

pub record JobsComputed : Type 0 where
  pub differences_starts : NotRefused (differences_of at_one).0
  pub differences_given : GivenF64s slope_answers
  pub differences_run_lem : (differences_run at_one slope_answers).replies ≡ slope_replies
  pub search_starts : NotRefused (search_code along).0
  pub search_given : GivenF64s along_answers
  pub search_run : (code_run along along_answers).replies ≡ along_replies
  pub infinite_given : GivenF64s infinite_answers
  pub infinite_run : (run code sample infinite_answers).replies ≡ infinite_replies
