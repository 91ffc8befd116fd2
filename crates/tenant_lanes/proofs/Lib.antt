mod Making
mod Jobs
