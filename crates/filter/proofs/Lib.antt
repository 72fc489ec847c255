mod PlanAnswers
mod NarrowLoop
