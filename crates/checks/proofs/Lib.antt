mod FirstCrossed
mod FirstCrossedLoop
