mod Live
