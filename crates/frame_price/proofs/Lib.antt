mod EvaluatedLines
mod PointTotals
mod FrameCosts
