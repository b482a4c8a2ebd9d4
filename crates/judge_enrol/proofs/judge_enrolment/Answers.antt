use Rattle.judge_enrol.proofs.TestLaws.{judged_early, judged_late, judged_ok, plan_map}
use Rattle.judge_enrol.proofs.judge_enrolment.Goals as goal

pub returns-in_err-judge_lengths : goal.returns-in_err-judge_lengths
returns-in_err-judge_lengths c = judged_early c.args.job c.args.cuts.now _ _ _ _ _ _ c.from_residual.ensures c.in_err-judge_lengths.ensures

pub survey_map-survey-requires : goal.survey_map-survey-requires
survey_map-survey-requires c = plan_map c.args.job c.args.cuts.now _ c.args.lengths _ _ c.in_ok-judge_lengths.ensures _ c.block_at-block.ensures

pub returns-in_err-late : goal.returns-in_err-late
returns-in_err-late c =
    judged_late c.args.job c.args.cuts.now _ _ _ _ c.in_ok-judge_lengths.ensures _ c.block_at-block.ensures _ c.survey_map-survey.ensures.faces c.survey_map-survey.ensures.curves c.survey_map-survey.ensures.points
    _ _ c.from_residual-in_err-late.ensures c.in_err-late.ensures

pub returns : goal.returns
returns c =
    judged_ok c.args.job c.args.cuts.now _ _ _ _ c.in_ok-judge_lengths.ensures _ c.block_at-block.ensures _ c.survey_map-survey.ensures.faces c.survey_map-survey.ensures.curves c.survey_map-survey.ensures.points
    c.in_ok-late.ensures
